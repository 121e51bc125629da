-- The rows of the voters gone through.
use Rattle.std.proofs.Common.{◌≡◌, ◌++◌, ℕ}
use Rattle.sets.specs.Lists.{any}
use Rattle.sets.specs.Sets.{member, members, to_come}
use Rattle.wiring.specs.Wires.{feeds}
use Rattle.wiring.proofs.links.Links.fed_by.Given as goal

abbrev pub invariant-loop-v : goal.invariant-loop-v
invariant-loop-v l =
    (goal.iterator-loop-v).can_next l.v-iterator × (goal.iterator-loop-v).is_finite l.v-iterator
    × (l.yielded ++ to_come l.v-iterator ≡ members l.fn.voters) × ((m : ℕ) → member l.fed m ≡ any (λ v. feeds l.self v m) l.yielded)

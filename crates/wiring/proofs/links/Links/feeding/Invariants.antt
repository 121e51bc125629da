-- The rows so far.
use Rattle.std.proofs.Common.{◌≡◌, ℕ}
use Rattle.sets.specs.Sets.{member}
use Rattle.wiring.proofs.Grown.{feeding_so_far}
use Rattle.wiring.proofs.links.Links.feeding.Given as goal

abbrev pub invariant-loop-v : goal.invariant-loop-v
invariant-loop-v l = (v : ℕ) → member l.found v ≡ feeding_so_far l.self l.modules l.v v

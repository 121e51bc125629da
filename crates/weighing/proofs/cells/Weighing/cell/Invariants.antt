-- The groups found so far in a combination, and the combinations weighed so far.
use Rattle.std.proofs.Common.{◌≡◌, ℕ, ◌≤◌, length}
use Rattle.sets.specs.Sets.{members}
use Rattle.weighing.proofs.Grouped.{Ungrouped}
use Rattle.weighing.proofs.Weighed.{combinations_below, groups_below}
use Rattle.weighing.proofs.cells.Weighing.cell.Given as goal

-- all groups that start below n are multiplied on, and no other
abbrev pub invariant-loop-v : goal.invariant-loop-v
invariant-loop-v g l =
    let w = g.W.Weight in
    (n : ℕ) × (n ≤ 16) × Ungrouped l.self.links.now l.chosen l.ungrouped n
    × (w.value l.groups ≡ groups_below w.kind w.value l.self.voters.now l.self.modules.now l.self.links.now l.voters l.modules l.chosen n)

abbrev pub decreases-loop-v : goal.decreases-loop-v
decreases-loop-v g l = length (members l.ungrouped)

abbrev pub invariant-loop-j : goal.invariant-loop-j
invariant-loop-j g l =
    let w = g.W.Weight in
    w.value l.total ≡ combinations_below w.kind w.value l.self.voters.now l.self.modules.now l.self.links.now l.voters l.modules l.j

-- The combination so far.
use Rattle.sets.specs.Sets.{to_come}
use Rattle.weighing.proofs.Chosen.{Picked}
use Rattle.weighing.proofs.cells.combination_of.Given as goal

abbrev pub invariant-loop-v : goal.invariant-loop-v
invariant-loop-v l = Picked l.fn.voters l.j l.chosen l.digits (to_come l.v-iterator)

-- The total of what the rows up to `a` give.
use Rattle.matrices.proofs.Values.{Summed, times_row}
use Rattle.matrices.proofs.matrix.FaultMatrix.product_entry.Given as goal

abbrev pub invariant-loop-a : goal.invariant-loop-a
invariant-loop-a l = Summed (times_row l.self.entries l.other.entries l.place.row l.place.column) l.a l.total

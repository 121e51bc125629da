-- The total of the products up to `b`.
use Rattle.matrices.proofs.Values.{Summed, times_term}
use Rattle.matrices.proofs.matrix.FaultMatrix.row_product.Given as goal

abbrev pub invariant-loop-b : goal.invariant-loop-b
invariant-loop-b l = Summed (times_term l.self.entries l.other.entries l.place.row l.place.column l.a) l.b l.total

-- The length of the first `place` numbers.
use Rattle.std.proofs.Common.{◌+◌}
use Rattle.matrices.proofs.Prints.{Measured}
use Rattle.matrices.proofs.matrix.FaultMatrix.print_len.Given as goal

abbrev pub invariant-loop-n : goal.invariant-loop-n
invariant-loop-n l = Measured l.self.entries (l.n-index + 1) l.len

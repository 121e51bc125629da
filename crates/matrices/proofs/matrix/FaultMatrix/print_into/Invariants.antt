-- The first `place` numbers stand in the buffer, by what it held before the first.
use Rattle.std.proofs.Common.{◌+◌, ◌≡◌, ℕ, ◌≤◌, List, length}
use Rattle.matrices.specs.FaultMatrices.{matrix_print}
use Rattle.matrices.specs.Values.{matrix_value}
use Rattle.matrices.proofs.Prints.{Printed, front}
use Rattle.matrices.proofs.matrix.FaultMatrix.print_into.Given as goal

abbrev pub invariant-loop-n : goal.invariant-loop-n
invariant-loop-n l = (l.end ≡ length (front l.self.entries (l.n-index + 1))) × ((b : List ℕ) → length (matrix_print (matrix_value l.self)) ≤ length b → Printed l.self.entries 1 b l.initial.buffer → Printed l.self.entries (l.n-index + 1) b l.buffer)

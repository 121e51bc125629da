-- What the entries of a fault matrix stand for.
use Rattle.std.specs.Prelude.{ℕ, ◌+◌, ◌*◌, List, slice_index}
use Rattle.std.proofs.Common.{lit<}
use Rattle.matrices.specs.FaultMatrices.{fault_matrices, matrix}
use Rattle.matrices.specs.declared.matrix.FaultMatrix.{FaultMatrix}
use Rattle.scales.specs.Counts.{count_limit, counts}
use Rattle.scales.specs.Remainders.{reduced}

-- a number modulo 2^64
unfoldable pub residue : ℕ → counts.Value
residue n = reduced count_limit (lit< tt) n

-- the entry at row i and column j of numbers that stand row by row, 16 to a row
abbrev pub entry_in : List ℕ → ℕ → ℕ → counts.Value
entry_in ns i j = residue (slice_index ns (16 * i + j))

-- the matrix that 272 such numbers stand for
unfoldable pub matrix_of : List ℕ → fault_matrices.Value
matrix_of ns = matrix (entry_in ns)

abbrev pub matrix_value : FaultMatrix → fault_matrices.Value
matrix_value m = matrix_of m.entries

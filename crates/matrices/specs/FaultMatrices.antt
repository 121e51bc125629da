-- Fault matrices: for each number of voter faults, 0 to 16, and of module faults, 0 to 15, a number modulo 2^64.
use Rattle.std.specs.Prelude.{ℕ, suc, ◌-◌, List, [], ◌∷◌, ◌++◌, map, decimal}
use Rattle.algebra.specs.Laws.{Kind}
use Rattle.algebra.specs.Sums.{sum}
use Rattle.matrices.specs.Polynomials.{polynomials, table, at, power}
use Rattle.scales.specs.Counts.{counts}
use Rattle.std.specs.List.{range_with_len, flat_map}

-- a row: a polynomial in the unknown of module faults
unfoldable pub fault_rows : Kind
fault_rows = polynomials 16 counts

-- a matrix: a polynomial in the unknown of voter faults, with rows for coefficients
unfoldable pub fault_matrices : Kind
fault_matrices = polynomials 17 fault_rows

-- the entry at row i and column j
unfoldable pub entry_at : fault_matrices.Value → ℕ → ℕ → counts.Value
unfolding fault_matrices fault_rows
entry_at v i j = at counts 16 (at fault_rows 17 v i) j

-- the matrix that f gives, entry by entry
unfoldable pub matrix : (ℕ → ℕ → counts.Value) → fault_matrices.Value
unfolding fault_matrices fault_rows
matrix f = table 17 (λ i. table 16 (f i))

-- the i-th power of the unknown of voter faults times the j-th of that of module faults: one at row i and column j
unfoldable pub powers : ℕ → ℕ → fault_matrices.Value
unfolding fault_matrices fault_rows
powers i j = power fault_rows 17 i (power counts 16 j counts.unit)

-- the unknown of voter faults, and that of module faults
abbrev pub voter_fault : fault_matrices.Value
voter_fault = powers 1 0

abbrev pub module_fault : fault_matrices.Value
module_fault = powers 0 1

module _ (x y : ℕ → ℕ → counts.Value) (i j : ℕ) where
  -- what row a of x gives to the entry of a product at row i and column j:
  -- over all b up to j, the entry of x at a and b times that of y at i − a and j − b
  unfoldable pub row_product : ℕ → counts.Value
  row_product a = sum counts (λ b. counts.times (x a b) (y (i - a) (j - b))) (range_with_len 0 (suc j))

  -- the entry of a product at row i and column j: what all rows of x up to i give
  unfoldable pub product_entry : counts.Value
  product_entry = sum counts row_product (range_with_len 0 (suc i))

-- the numbers of a matrix, row by row
unfoldable pub numbers : fault_matrices.Value → List ℕ
numbers v = flat_map (λ i. map (λ j. (entry_at v i j).number) (range_with_len 0 16)) (range_with_len 0 17)

-- numbers in decimal, with one space between any two
unfoldable pub spaced : List ℕ → List ℕ
spaced [] = []
spaced (n ∷ ns) = decimal n ++ flat_map (λ m. 32 ∷ decimal m) ns

abbrev pub matrix_print : fault_matrices.Value → List ℕ
matrix_print v = spaced (numbers v)

-- Fault matrices: tolerated patterns counted by how many trios are faulty in them.
use Rattle.std.specs.Prelude.{ℕ, ◌/◌, ◌%◌, Bool, true, false, ◌&&◌, List, map, length, take, drop, filter, ◌==◌}
use Rattle.std.specs.List.{range_with_len}
use Rattle.network.specs.Networks.{Network, voter_count}
use Rattle.network.specs.Patterns.{Pattern, State, whole, at, patterns, tolerated}

-- the trio is not whole
abbrev pub faulty : State → Bool
faulty whole = false
faulty (at p) = true

-- how many trios are faulty
abbrev pub faults : List State → ℕ
faults xs = length (filter faulty xs)

-- among the voter trios, and among the module trios
abbrev pub voter_faults : Network → Pattern → ℕ
voter_faults n pattern = faults (take (voter_count n) pattern)

abbrev pub module_faults : Network → Pattern → ℕ
module_faults n pattern = faults (drop (voter_count n) pattern)

-- exactly i voter trios and j module trios are faulty
abbrev pub has_faults : Network → ℕ → ℕ → Pattern → Bool
has_faults n i j pattern = voter_faults n pattern == i && module_faults n pattern == j

-- The fault matrix of a network: at row i and column j the number of its tolerated patterns with exactly i faulty
-- voter trios and j faulty module trios.
unfoldable pub fault_count : Network → ℕ → ℕ → ℕ
fault_count n i j = length (filter (has_faults n i j) (filter (tolerated n) (patterns n)))

-- how many numbers a matrix has: rows 0 to 16 and columns 0 to 15
abbrev pub matrix_size : ℕ
matrix_size = 272

-- a matrix as a list: the entry at row i and column j has place 16 · i + j
unfoldable pub laid_out : (ℕ → ℕ → ℕ) → List ℕ
laid_out f = map (λ place. f (place / 16) (place % 16)) (range_with_len 0 matrix_size)

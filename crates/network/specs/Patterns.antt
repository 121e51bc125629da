-- Fault patterns, and the total of the tolerated ones.
use Rattle.std.specs.Prelude.{ℕ, zero, suc, ◌+◌, Bool, false, not, ◌&&◌, ◌||◌, List, [], ◌∷◌, map, filter, ◌==◌, slice_index_or}
use Rattle.std.specs.List.{range_with_len, flat_map, zip}
use Rattle.algebra.specs.Laws.{Kind}
use Rattle.algebra.specs.Sums.{product, sum}
use Rattle.sets.specs.Lists.{all, any}
use Rattle.network.specs.Networks.{Network, linked, module_count, voter_count}

-- The positions of a trio: each of its three copies stands at one.
pub data Position : Type 0 where
  A : Position
  B : Position
  C : Position

-- A trio is whole, or faulty at one position.
pub data State : Type 0 where
  whole : State
  at : Position → State

abbrev pub states : List State
states = whole ∷ (at A ∷ (at B ∷ (at C ∷ [])))

-- the positions by number
abbrev pub index : Position → ℕ
index A = 0
index B = 1
index C = 2

abbrev pub faulty_at : Position → State → Bool
faulty_at p whole = false
faulty_at p (at q) = index p == index q

-- A fault pattern: the state of each trio, voters first.
abbrev pub Pattern : Type 0
Pattern = List State

-- all ways to give a number of trios a state each
abbrev pub assignments : ℕ → List Pattern
assignments zero = [] ∷ []
assignments (suc k) = flat_map (λ s. map (λ rest. s ∷ rest) (assignments k)) states

unfoldable pub patterns : Network → List Pattern
patterns n = assignments (voter_count n + module_count n)

abbrev pub voter_state : Pattern → ℕ → State
voter_state pattern v = slice_index_or pattern v whole

abbrev pub module_state : Network → Pattern → ℕ → State
module_state n pattern m = slice_index_or pattern (voter_count n + m) whole

-- position p of module trio m is bad: the trio is faulty there, or a voter trio linked to it is
abbrev pub bad : Network → Pattern → ℕ → Position → Bool
bad n pattern m p =
    faulty_at p (module_state n pattern m) || any (λ v. linked n v m && faulty_at p (voter_state pattern v)) (range_with_len 0 (voter_count n))

abbrev pub two_bad : Network → Pattern → ℕ → Bool
two_bad n pattern m =
    (bad n pattern m A && bad n pattern m B) || ((bad n pattern m A && bad n pattern m C) || (bad n pattern m B && bad n pattern m C))

-- no module trio has two bad positions
unfoldable pub tolerated : Network → Pattern → Bool
tolerated n pattern = all (λ m. not (two_bad n pattern m)) (range_with_len 0 (module_count n))

-- The weights of a trio: one for each state.
abbrev pub Weights : Kind → Type 0
Weights k = State → k.Value

-- the weight of a pattern: the product over its trios
abbrev pub weight : (k : Kind) → List (Weights k) → Pattern → k.Value
weight k ws pattern = product k (λ e. e.0 e.1) (zip ws pattern)

-- the sum over all tolerated patterns; ws has the weights of each trio, voters first
unfoldable pub total : (k : Kind) → Network → List (Weights k) → k.Value
total k n ws = sum k (weight k ws) (filter (tolerated n) (patterns n))

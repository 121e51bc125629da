-- Sources that leave marks at places, and the sum over their states: what patterns, combinations, cells and groups all are.
use Rattle.std.proofs.Common.{ℕ, Bool, cond, eqb, List, [], ◌∷◌}
use Rattle.algebra.specs.Laws.{Kind}
use Rattle.algebra.specs.Sums.{product, sum}
use Rattle.network.specs.Patterns.{Position, index, State, whole, at, Weights}

-- what the faulty sources at a place come to: no fault, faults at one position, or faults at two or three
pub data Mark : Type 0 where
  none : Mark
  one : Position → Mark
  clash : Mark

abbrev pub join : Mark → Mark → Mark
join none m = m
join (one p) none = one p
join (one p) (one q) = cond (eqb (index p) (index q)) (one p) clash
join (one p) clash = clash
join clash m = clash

abbrev pub mark_of : State → Mark
mark_of whole = none
mark_of (at p) = one p

-- the mark that a source in a state leaves at a place; row says which places a source reaches
abbrev pub left_at : (ℕ → ℕ → Bool) → ℕ → State → ℕ → Mark
left_at row s x r = cond (row s r) (mark_of x) none

module _ (k : Kind) where
  -- what a place adds at a mark, if u is what it adds apart from every group and at a group's position
  abbrev pub factor : Weights k → Mark → k.Value
  factor u none = u whole
  factor u (one p) = u (at p)
  factor u clash = k.nothing

  module _ (sources : ℕ → Weights k) (places : ℕ → Weights k) (row : ℕ → ℕ → Bool) where
    -- The sum over the given states of the sources, of the product of their weights and of what the places add at the
    -- marks that there are already, joined with the sources' own.
    abbrev pub ways : List State → List ℕ → List ℕ → (ℕ → Mark) → k.Value
    ways ss [] rs marks = product k (λ r. factor (places r) (marks r)) rs
    ways ss (s ∷ sources') rs marks =
        sum k (λ x. k.times (sources s x) (ways ss sources' rs (λ r. join (marks r) (left_at row s x r)))) ss

-- no mark anywhere
abbrev pub unmarked : ℕ → Mark
unmarked r = none

-- Products of coefficients at all powers: each by its first term and the rest, and their laws.
use Rattle.std.specs.Prelude.{◌≡◌, ℕ, zero, suc, ◌+◌, ◌-◌, ◌≤◌, List, [], ◌∷◌}
use Rattle.std.proofs.Math.Nat.{sub-zero, suc-sub-suc}
use Rattle.std.proofs.Common.{arith, ◌∙◌}
use Rattle.std.proofs.Math.Path.{refl, sym, ap, ap₂, fun_ext}
use Rattle.std.proofs.Math.Dec.{eqb-suc-zero}
use Rattle.algebra.specs.Laws.{Kind, Laws}
use Rattle.algebra.specs.Sums.{sum, sum_on}
use Rattle.matrices.specs.Polynomials.{only_at, product_at}
use Rattle.std.proofs.lemmas.Bool.{cond-false}
use Rattle.std.specs.List.{range_with_len}

-- the coefficients without the first
abbrev rest : {V : Type 0} → (ℕ → V) → ℕ → V
rest f i = f (suc i)

-- the coefficient of a product at the power i: the first of f times the i-th of g, and then the rest of f
pub series_at : (k : Kind) → (ℕ → k.Value) → (ℕ → k.Value) → ℕ → k.Value
series_at k f g zero = k.times (f 0) (g 0)
series_at k f g (suc i) = k.plus (k.times (f 0) (g (suc i))) (series_at k (rest f) g i)

module _ (k : Kind) (laws : Laws k) where
  -- a sum by its first element
  sum_on_start : {X : Type 0} (f : X → k.Value) (acc : k.Value) (xs : List X) → sum_on k f acc xs ≡ k.plus acc (sum k f xs)
  sum_on_start f acc [] = sym (laws.plus_comm acc k.nothing ∙ laws.plus_nothing acc)
  sum_on_start f acc (x ∷ xs) =
      sum_on_start f (k.plus acc (f x)) xs
      ∙ laws.plus_assoc acc (f x) (sum k f xs)
      ∙ ap (k.plus acc) (sym (sum_on_start f (k.plus k.nothing (f x)) xs ∙ ap (λ y. k.plus y (sum k f xs)) (laws.plus_nothing (f x))))

  sum_shift : (f : ℕ → k.Value) (acc : k.Value) (a n : ℕ) → sum_on k f acc (range_with_len (suc a) n) ≡ sum_on k (rest f) acc (range_with_len a n)
  sum_shift f acc a zero = refl
  sum_shift f acc a (suc n) =
      let next : suc a + 1 ≡ suc (a + 1) = omega arith in
      ap (λ b. sum_on k f (k.plus acc (f (suc a))) (range_with_len b n)) next ∙ sum_shift f (k.plus acc (f (suc a))) (a + 1) n

  pub sum_first : (f : ℕ → k.Value) (n : ℕ) → sum k f (range_with_len 0 (suc n)) ≡ k.plus (f 0) (sum k (rest f) (range_with_len 0 n))
  sum_first f n =
      sum_on_start f (k.plus k.nothing (f 0)) (range_with_len 1 n)
      ∙ ap₂ k.plus (laws.plus_nothing (f 0)) (sum_shift f k.nothing 0 n)

  pub product_series : (f g : ℕ → k.Value) (i : ℕ) → product_at k f g i ≡ series_at k f g i
  unfolding product_at series_at
  product_series f g zero = laws.plus_nothing (k.times (f 0) (g 0))
  product_series f g (suc i) =
      let back : rest (λ j. k.times (f j) (g (suc i - j))) ≡ (λ j. k.times (f (suc j)) (g (i - j))) =
      fun_ext (λ j. ap (λ n. k.times (f (suc j)) (g n)) (suc-sub-suc i j)) in
      sum_first (λ j. k.times (f j) (g (suc i - j))) (suc i)
      ∙ ap₂ k.plus (ap (λ n. k.times (f 0) (g n)) (sub-zero (suc i))) (ap (λ h. sum k h (range_with_len 0 (suc i))) back ∙ product_series (rest f) g i)

  -- four summands, the middle two changed over
  swap_middle : (w x y z : k.Value) → k.plus (k.plus w x) (k.plus y z) ≡ k.plus (k.plus w y) (k.plus x z)
  swap_middle w x y z =
      laws.plus_assoc w x (k.plus y z)
      ∙ ap (k.plus w) (sym (laws.plus_assoc x y z) ∙ ap (λ s. k.plus s z) (laws.plus_comm x y) ∙ laws.plus_assoc y x z)
      ∙ sym (laws.plus_assoc w y (k.plus x z))

  distributes_left : (x y z : k.Value) → k.times (k.plus x y) z ≡ k.plus (k.times x z) (k.times y z)
  distributes_left x y z =
      laws.times_comm (k.plus x y) z ∙ laws.distributes z x y ∙ ap₂ k.plus (laws.times_comm z x) (laws.times_comm z y)

  series_plus : (a b g : ℕ → k.Value) (i : ℕ) → series_at k (λ j. k.plus (a j) (b j)) g i ≡ k.plus (series_at k a g i) (series_at k b g i)
  unfolding series_at
  series_plus a b g zero = distributes_left (a 0) (b 0) (g 0)
  series_plus a b g (suc i) =
      ap₂ k.plus (distributes_left (a 0) (b 0) (g (suc i))) (series_plus (rest a) (rest b) g i)
      ∙ swap_middle _ _ _ _

  series_scaled : (x : k.Value) (a g : ℕ → k.Value) (i : ℕ) → series_at k (λ j. k.times x (a j)) g i ≡ k.times x (series_at k a g i)
  unfolding series_at
  series_scaled x a g zero = laws.times_assoc x (a 0) (g 0)
  series_scaled x a g (suc i) =
      ap₂ k.plus (laws.times_assoc x (a 0) (g (suc i))) (series_scaled x (rest a) g i)
      ∙ sym (laws.distributes x _ _)

  pub series_assoc : (f g h : ℕ → k.Value) (i : ℕ) → series_at k (series_at k f g) h i ≡ series_at k f (series_at k g h) i
  unfolding series_at
  series_assoc f g h zero = laws.times_assoc (f 0) (g 0) (h 0)
  series_assoc f g h (suc i) =
      ap₂ k.plus (laws.times_assoc (f 0) (g 0) (h (suc i)))
      (series_plus (λ j. k.times (f 0) (g (suc j))) (series_at k (rest f) g) h i
      ∙ ap₂ k.plus (series_scaled (f 0) (rest g) h i) (series_assoc (rest f) g h i))
      ∙ sym (laws.plus_assoc _ _ _)
      ∙ ap (λ s. k.plus s (series_at k (rest f) (series_at k g h) i)) (sym (laws.distributes (f 0) _ _))

  -- the other way round: the last term, and what comes before
  series_last : (f g : ℕ → k.Value) (i : ℕ) → series_at k f g (suc i) ≡ k.plus (series_at k f (rest g) i) (k.times (f (suc i)) (g 0))
  unfolding series_at
  series_last f g zero = refl
  series_last f g (suc i) =
      ap (k.plus (k.times (f 0) (g (suc (suc i))))) (series_last (rest f) g i) ∙ sym (laws.plus_assoc _ _ _)

  pub series_comm : (f g : ℕ → k.Value) (i : ℕ) → series_at k f g i ≡ series_at k g f i
  unfolding series_at
  series_comm f g zero = laws.times_comm (f 0) (g 0)
  series_comm f g (suc i) =
      ap₂ k.plus (laws.times_comm (f 0) (g (suc i))) (series_comm (rest f) g i)
      ∙ laws.plus_comm _ _
      ∙ sym (series_last g f i)

  pub series_nothing : (g : ℕ → k.Value) (i : ℕ) → series_at k (λ j. k.nothing) g i ≡ k.nothing
  unfolding series_at
  series_nothing g zero = laws.times_nothing (g 0)
  series_nothing g (suc i) = ap₂ k.plus (laws.times_nothing (g (suc i))) (series_nothing g i) ∙ laws.plus_nothing k.nothing

  pub series_unit : (g : ℕ → k.Value) (i : ℕ) → series_at k (only_at k 0 k.unit) g i ≡ g i
  unfolding series_at
  series_unit g zero = laws.times_unit (g 0)
  series_unit g (suc i) =
      let none : rest (only_at k 0 k.unit) ≡ (λ j. k.nothing) = fun_ext (λ j. cond-false _ _ _ (eqb-suc-zero j)) in
      ap₂ k.plus (laws.times_unit (g (suc i))) (ap (λ f. series_at k f g i) none ∙ series_nothing g i)
      ∙ laws.plus_comm _ _
      ∙ laws.plus_nothing (g (suc i))

  pub series_distributes : (f g h : ℕ → k.Value) (i : ℕ) → series_at k f (λ j. k.plus (g j) (h j)) i ≡ k.plus (series_at k f g i) (series_at k f h i)
  series_distributes f g h i =
      series_comm f (λ j. k.plus (g j) (h j)) i ∙ series_plus g h f i ∙ ap₂ k.plus (series_comm g f i) (series_comm h f i)

-- a product at i takes coefficients up to i only
pub series_same : (k : Kind) (f f' g g' : ℕ → k.Value) (i : ℕ) → ((j : ℕ) → j ≤ i → f j ≡ f' j) → ((j : ℕ) → j ≤ i → g j ≡ g' j) → series_at k f g i ≡ series_at k f' g' i
unfolding series_at
series_same k f f' g g' zero left right = ap₂ k.times (left 0 (omega arith)) (right 0 (omega arith))
series_same k f f' g g' (suc i) left right =
    ap₂ k.plus (ap₂ k.times (left 0 (omega arith)) (right (suc i) (omega arith)))
    (series_same k (rest f) (rest f') g g' i (λ j h. left (suc j) (omega arith)) (λ j h. right j (omega arith)))

-- Products over growing sets of numbers, one step at a time.
use Rattle.std.proofs.Common.{◌≡◌, ℕ, ◌+◌, Bool, true, false, cond, List, [], ◌∷◌, ◌++◌, Some, slice_get, filter, sym, refl, ap, ◌∙◌, arith}
use Rattle.std.specs.List.{range_with_len}
use Rattle.std.proofs.lemmas.List.{get_or-map}
use Rattle.std.proofs.lemmas.Option.{get_or_from_slice_get, slice_get_within}
use Rattle.algebra.specs.Laws.{Kind}
use Rattle.algebra.specs.Sums.{product, product_on}
use Rattle.algebra.proofs.Steps.{product_append}
use Rattle.method.specs.Method.{entry}
use Rattle.network.specs.Patterns.{Position, State}
use Rattle.network.proofs.Lists.{kept_counting_more}
use Rattle.weighing.specs.Entries.{ReturnsByPlace, each_position, read, read_all}
use Rattle.weighing.specs.declared.weights.Weights.{Weights}

-- the numbers below n + 1 that pass
pub kept_next : (test : ℕ → Bool) (n : ℕ) → filter test (range_with_len 0 (n + 1)) ≡ filter test (range_with_len 0 n) ++ cond (test n) (n ∷ []) []
kept_next test n = let e : 0 + n ≡ n = omega arith in kept_counting_more test 0 n ∙ ap (λ x. filter test (range_with_len 0 n) ++ cond (test x) (x ∷ []) []) e

module _ (k : Kind) (f : ℕ → k.Value) where
  -- the product over those below n that pass
  abbrev pub product_below : (ℕ → Bool) → ℕ → k.Value
  product_below test n = product k f (filter test (range_with_len 0 n))

  pub product_with : (test : ℕ → Bool) (n : ℕ) → test n ≡ true → product_below test (n + 1) ≡ k.times (product_below test n) (f n)
  product_with test n h =
      ap (product k f) (kept_next test n ∙ ap (λ b. filter test (range_with_len 0 n) ++ cond b (n ∷ []) []) h) ∙ product_append k f k.unit (filter test (range_with_len 0 n)) (n ∷ [])

  pub product_without : (test : ℕ → Bool) (n : ℕ) → test n ≡ false → product_below test (n + 1) ≡ product_below test n
  product_without test n h =
      ap (product k f) (kept_next test n ∙ ap (λ b. filter test (range_with_len 0 n) ++ cond b (n ∷ []) []) h) ∙ product_append k f k.unit (filter test (range_with_len 0 n)) []

-- position by position a product is the products at the positions
module _ (k : Kind) (f : ℕ → Position → k.Value) (p : Position) where
  product_on_at : (acc : Position → k.Value) (xs : List ℕ) → product_on (each_position k) f acc xs p ≡ product_on k (λ i. f i p) (acc p) xs
  product_on_at acc [] = refl
  product_on_at acc (x ∷ xs) = product_on_at (λ q. k.times (acc q) (f x q)) xs

  pub product_at : (xs : List ℕ) (x : Position → k.Value) → x ≡ product (each_position k) f xs → x p ≡ product k (λ i. f i p) xs
  product_at xs x e = (λ j. e j p) ∙ product_on_at (λ q. k.unit) xs

module _ (k : Kind) {W : Type 0} (value : W → k.Value) (ws : List (Weights W)) where
  -- an entry as what it is read as at its place
  read_at : (i : ℕ) (w : Weights W) → slice_get ws i ≡ Some w → read value w ≡ entry k (read_all value ws) i
  read_at i w is =
      sym (ap (read value) (get_or_from_slice_get ws i w w is)) ∙ sym (get_or-map (read value) ws i w (λ _. k.unit) (slice_get_within ws i w is))

  -- what is returned at an entry is a share of its weights
  pub by_place : {R V : Type 0} (returns : Weights W → R → Type 0) (stands_for : R → V) (share : (State → k.Value) → V) → ((w : Weights W) (r : R) → returns w r → stands_for r ≡ share (read value w))
      → ReturnsByPlace returns stands_for ws (λ i. share (entry k (read_all value ws) i))
  by_place returns stands_for share says i w r is gives = says w r gives ∙ ap share (read_at i w is)

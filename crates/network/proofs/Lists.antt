-- Tests over lists of numbers and trios.
use Rattle.std.proofs.Common.{◌≡◌, ℕ, zero, suc, ◌+◌, ◌<◌, ◌≤◌, Bool, true, false, cond, ◌&&◌, List, [], ◌∷◌, ◌++◌, map, filter, refl, ap, subst, ⊎_elim, arith}
use Rattle.std.specs.List.{range_with_len}
use Rattle.std.proofs.lemmas.Bool.{and_parts, and_from, cases_eq}
use Rattle.std.proofs.lemmas.List.FromFn.{filter_of_map_range_with_len_more}
use Rattle.std.proofs.lemmas.List.{map-id}
use Rattle.sets.specs.Lists.{all}

module _ {X : Type 0} where
  pub all_append : (p : X → Bool) (xs ys : List X) → all p (xs ++ ys) ≡ (all p xs && all p ys)
  all_append p [] ys = refl
  all_append p (x ∷ xs) ys = rw (all_append p xs ys) (assoc (p x) (all p xs) (all p ys))
    where
      assoc : (a b c : Bool) → (a && (b && c)) ≡ ((a && b) && c)
      assoc true b c = refl
      assoc false b c = refl

  pub all_map : {Y : Type 0} (p : X → Bool) (f : Y → X) (ys : List Y) → all p (map f ys) ≡ all (λ y. p (f y)) ys
  all_map p f [] = refl
  all_map p f (y ∷ ys) = ap (λ b. p (f y) && b) (all_map p f ys)

-- a test over the numbers from a on
pub all_counting_at : (p : ℕ → Bool) (a n : ℕ) → all p (range_with_len a n) ≡ true → (k : ℕ) → a ≤ k → k < a + n → p k ≡ true
all_counting_at p a zero h k low high = absurd (omega arith)
all_counting_at p a (suc n) h k low high =
    let parts = and_parts (p a) (all p (range_with_len (a + 1) n)) h in
    let P : ℕ → Type 0 = λ x. p x ≡ true in
    ⊎_elim (λ e. subst P e parts.0) (λ ne. all_counting_at p (a + 1) n parts.1 k (omega arith) (omega arith)) (cases_eq a k)

pub all_counting : (p : ℕ → Bool) (a n : ℕ) → ((k : ℕ) → a ≤ k → k < a + n → p k ≡ true) → all p (range_with_len a n) ≡ true
all_counting p a zero h = refl
all_counting p a (suc n) h = and_from _ _ (h a (omega arith) (omega arith)) (all_counting p (a + 1) n (λ k low high. h k (omega arith) (omega arith)))

-- the numbers that pass, one more at the end
pub kept_counting_more : (p : ℕ → Bool) (a n : ℕ) → filter p (range_with_len a (n + 1)) ≡ filter p (range_with_len a n) ++ cond (p (a + n)) ((a + n) ∷ []) []
kept_counting_more p a n =
    let ids = filter_of_map_range_with_len_more p (λ x. x) a n (a + n) refl in
    let whole = map-id (range_with_len a (n + 1)) in
    let front = map-id (range_with_len a n) in
    rw (whole, front) at ids

-- The trios of a network one by one, and the place of the first element that passes a test.
use Rattle.std.proofs.Common.{◌≡◌, ℕ, zero, suc, ◌+◌, ◌-◌, ◌<◌, ◌≤◌, Bool, true, false, cond, List, [], ◌∷◌, map, length, get_or, drop, sym, refl, ap, ◌∙◌, subst, ap₂, ⊎_elim, arith}
use Rattle.std.specs.List.{range_with_len}
use Rattle.std.proofs.lemmas.List.FromFn.{get_or-map-range_with_len, length-map-range_with_len}
use Rattle.std.proofs.lemmas.List.{at_drop_all, at_drop_more, get_or_append_left, get_or-append_right, length-append}
use Rattle.std.proofs.lemmas.Bool.{both_ways, cases_lt, cases_order, cond_both, cond-false, cond-true, false≢true, lt-ltb, ltb-true}
use Rattle.network.specs.Cells.{place, precedes}
use Rattle.network.specs.Networks.{Network, module_count, present, trios, voter_count}
use Rattle.network.specs.declared.Trio.{Trio}
use Rattle.network.specs.declared.Trio.TheVariants.{Voter, Module}

voters_length : (n : Network) → length (map Voter (range_with_len 0 (voter_count n))) ≡ voter_count n
voters_length n = length-map-range_with_len Voter 0 (voter_count n)

pub length_trios : (n : Network) → length (trios n) ≡ voter_count n + module_count n
length_trios n = length-append (map Voter (range_with_len 0 (voter_count n))) _ ∙ ap₂ (λ a b. a + b) (voters_length n) (length-map-range_with_len Module 0 (module_count n))

pub voter_at : (n : Network) (k : ℕ) → k < voter_count n → Voter k ≡ get_or (trios n) k (Voter 0)
voter_at n k h =
    let within : k < length (map Voter (range_with_len 0 (voter_count n))) = omega (arith, voters_length n) in
    sym (get_or_append_left (map Voter (range_with_len 0 (voter_count n))) _ (Voter 0) k within ∙ get_or-map-range_with_len Voter 0 (voter_count n) k k (Voter 0) h (omega arith))

pub module_at : (n : Network) (k : ℕ) → voter_count n ≤ k → k < voter_count n + module_count n → Module (k - voter_count n) ≡ get_or (trios n) k (Voter 0)
module_at n k low high =
    sym (get_or-append_right (map Voter (range_with_len 0 (voter_count n))) _ (voter_count n) k (Voter 0) (voters_length n) low
    ∙ get_or-map-range_with_len Module 0 (module_count n) (k - voter_count n) (k - voter_count n) (Voter 0) (omega arith) (omega arith))

pub trio_present : (n : Network) (k : ℕ) → k < voter_count n + module_count n → present n (get_or (trios n) k (Voter 0)) ≡ true
trio_present n k h =
    let P : Trio → Type 0 = λ x. present n x ≡ true in
    ⊎_elim
    (λ lt. subst P (voter_at n k lt) (lt-ltb k (voter_count n) lt))
    (λ ge. subst P (module_at n k ge h) (lt-ltb (k - voter_count n) (module_count n) (omega arith)))
    (cases_lt k (voter_count n))

-- a trio that the network has stands at some place
pub trio_stands : (n : Network) (t : Trio) → present n t ≡ true → (k : ℕ) × (k < length (trios n)) × (get_or (trios n) k (Voter 0) ≡ t)
trio_stands n (Voter v) h =
    let lt = ltb-true v (voter_count n) h in
    (v, omega (arith, length_trios n), sym (voter_at n v lt))
trio_stands n (Module m) h =
    let lt = ltb-true m (module_count n) h in
    let k = voter_count n + m in
    let back : k - voter_count n ≡ m = omega arith in
    (k, omega (arith, length_trios n), sym (module_at n k (omega arith) (omega arith)) ∙ ap Module back)

-- each trio precedes all that stand after it, and no other
pub trios_in_order : (n : Network) (i j : ℕ) → i < j → j < length (trios n) → precedes (get_or (trios n) i (Voter 0)) (get_or (trios n) j (Voter 0)) ≡ true
trios_in_order n i j before within =
    let high : j < voter_count n + module_count n = omega (arith, length_trios n) in
    ⊎_elim
    (λ j_voter. ap₂ precedes (sym (voter_at n i (omega arith))) (sym (voter_at n j j_voter)) ∙ lt-ltb i j before)
    (λ j_module. ⊎_elim
    (λ i_voter. ap₂ precedes (sym (voter_at n i i_voter)) (sym (module_at n j j_module high)))
    (λ i_module. ap₂ precedes (sym (module_at n i i_module (omega arith))) (sym (module_at n j j_module high)) ∙ lt-ltb (i - voter_count n) (j - voter_count n) (omega arith))
    (cases_lt i (voter_count n)))
    (cases_lt j (voter_count n))

never_back : (t u : Trio) → precedes t u ≡ true → precedes u t ≡ true → ⊥
never_back (Voter v) (Voter w) h k = omega (arith, ltb-true v w h, ltb-true w v k)
never_back (Voter v) (Module m) h k = false≢true k
never_back (Module m) (Voter v) h k = false≢true h
never_back (Module m) (Module j) h k = omega (arith, ltb-true m j h, ltb-true j m k)

pub precedes_at : (n : Network) (i j : ℕ) → i < length (trios n) → precedes (get_or (trios n) i (Voter 0)) (get_or (trios n) j (Voter 0)) ≡ true → i < j
precedes_at n i j within h =
    let at : ℕ → Trio = λ k. get_or (trios n) k (Voter 0) in
    ⊎_elim
    (λ same. let itself = ap (λ k. precedes (at i) (at k)) same ∙ h in absurd (never_back (at i) (at i) itself itself))
    (⊎_elim (λ lt. lt) (λ gt. absurd (never_back (at i) (at j) h (trios_in_order n j i gt within))))
    (cases_order i j)

-- ---- the first element that passes

module _ {X : Type 0} (test : X → Bool) (xs : List X) (i : ℕ) (so_far : place test xs ≡ i + place test (drop i xs)) where
  pub place_hit : (d : X) → i < length xs → test (get_or xs i d) ≡ true → i ≡ place test xs
  place_hit d within h =
      let here : place test (drop i xs) ≡ 0 = at_drop_more (place test) xs i d within ∙ cond-true (test (get_or xs i d)) 0 _ h in
      omega arith

  pub place_more : (d : X) → i < length xs → test (get_or xs i d) ≡ false → place test xs ≡ i + 1 + place test (drop (i + 1) xs)
  place_more d within h =
      let on : place test (drop i xs) ≡ suc (place test (drop (i + 1) xs)) = at_drop_more (place test) xs i d within ∙ cond-false (test (get_or xs i d)) 0 _ h in
      omega arith

  pub place_end : length xs ≤ i → i ≡ place test xs
  place_end past = let none : place test (drop i xs) ≡ 0 = at_drop_all (place test) xs i past in omega arith

-- it passes where there is one, and none before it does
module _ {X : Type 0} (test : X → Bool) (d : X) where
  pub place_passes : (xs : List X) → place test xs < length xs → test (get_or xs (place test xs) d) ≡ true
  place_passes [] h = absurd (omega arith)
  place_passes (x ∷ xs) h =
      let P : ℕ → Type 0 = λ k. k < suc (length xs) → test (get_or (x ∷ xs) k d) ≡ true in
      cond_both (test x) 0 (suc (place test xs)) P (λ e _. e) (λ _ lt. place_passes xs (omega arith)) h

  pub place_before : (xs : List X) (i : ℕ) → i < place test xs → test (get_or xs i d) ≡ false
  place_before [] i h = absurd (omega arith)
  place_before (x ∷ xs) zero h =
      let P : ℕ → Type 0 = λ k. 0 < k → test x ≡ false in
      cond_both (test x) 0 (suc (place test xs)) P (λ _ lt. absurd (omega arith)) (λ e _. e) h
  place_before (x ∷ xs) (suc i) h =
      let P : ℕ → Type 0 = λ k. suc i < k → test (get_or xs i d) ≡ false in
      cond_both (test x) 0 (suc (place test xs)) P (λ _ lt. absurd (omega arith)) (λ _ lt. place_before xs i (omega arith)) h

  pub place_upto : (xs : List X) (i : ℕ) → test (get_or xs i d) ≡ true → place test xs ≤ i
  place_upto xs i h = ⊎_elim (λ lt. absurd (both_ways _ (place_before xs i lt) h)) (λ le. le) (cases_lt i (place test xs))

pub place_same : {X : Type 0} (p q : X → Bool) (xs : List X) → ((x : X) → p x ≡ q x) → place p xs ≡ place q xs
place_same p q [] h = refl
place_same p q (x ∷ xs) h = ap₂ (λ (b : Bool) (k : ℕ). cond b 0 (suc k)) (h x) (place_same p q xs h)

-- The sum over all states of the sources, by combinations: which sources are faulty, and then where.
use Rattle.std.proofs.Common.{◌≡◌, ℕ, zero, suc, ◌+◌, ◌*◌, ◌/◌, ◌%◌, ◌^◌, ◌<◌, Bool, true, false, cond, not, ◌||◌, eqb, List, [], ◌∷◌, length, filter, sym, refl, ap, ◌∙◌, ap₂, arith}
use Rattle.std.specs.List.{range_with_len, AllByRecursion as All}
use Rattle.std.proofs.ByRecursion.{All-weaker}
use Rattle.std.proofs.lemmas.Bool.{cond_both, eq-eqb, ne_eqb}
use Rattle.algebra.specs.Laws.{Kind, Laws}
use Rattle.algebra.specs.Sums.{product, sum}
use Rattle.algebra.proofs.Sums.{fold_one, fold_op, fold_same, fold_swap, op_swap, products, sums, times_sum}
use Rattle.network.specs.Patterns.{A, B, C, State, whole, at, states, Weights}
use Rattle.method.specs.Groups.{among, combination, left_out}
use Rattle.method.proofs.Lists.{kept_same_on, Rising, not_among}
use Rattle.method.proofs.Split.{join_none, marked}
use Rattle.method.proofs.Ways.{Mark, none, join, ways}

-- the states of a source that is not whole
abbrev pub three : List State
three = at A ∷ (at B ∷ (at C ∷ []))

-- the sources that combination j leaves whole
pub rest : List ℕ → ℕ → List ℕ
rest [] j = []
rest (v ∷ vs) j = cond (eqb (j % 2) 1) (rest vs (j / 2)) (v ∷ rest vs (j / 2))

-- ---- combinations by their last binary digit

even_digit : (j : ℕ) → eqb (2 * j % 2) 1 ≡ false
even_digit j = ne_eqb (2 * j % 2) 1 (omega arith)

even_half : (j : ℕ) → 2 * j / 2 ≡ j
even_half j = omega arith

odd_digit : (j : ℕ) → eqb ((2 * j + 1) % 2) 1 ≡ true
odd_digit j = eq-eqb ((2 * j + 1) % 2) 1 (omega arith)

odd_half : (j : ℕ) → (2 * j + 1) / 2 ≡ j
odd_half j = omega arith

module _ (v : ℕ) (vs : List ℕ) (j : ℕ) where
  combination_even : combination (v ∷ vs) (2 * j) ≡ combination vs j
  unfolding combination
  combination_even = λ i. cond (even_digit j i) (v ∷ combination vs (2 * j / 2)) (combination vs (even_half j i))

  combination_odd : combination (v ∷ vs) (2 * j + 1) ≡ v ∷ combination vs j
  unfolding combination
  combination_odd = λ i. cond (odd_digit j i) (v ∷ combination vs (odd_half j i)) (combination vs ((2 * j + 1) / 2))

  rest_even : rest (v ∷ vs) (2 * j) ≡ v ∷ rest vs j
  unfolding rest
  rest_even = λ i. cond (even_digit j i) (rest vs (2 * j / 2)) (v ∷ rest vs (even_half j i))

  rest_odd : rest (v ∷ vs) (2 * j + 1) ≡ rest vs j
  unfolding rest
  rest_odd = λ i. cond (odd_digit j i) (rest vs (odd_half j i)) (v ∷ rest vs ((2 * j + 1) / 2))

-- what combination j adds
abbrev pub chosen : (k : Kind) → (ℕ → Weights k) → (ℕ → Weights k) → (ℕ → ℕ → Bool) → List ℕ → List ℕ → (ℕ → Mark) → ℕ → k.Value
chosen k sources places row vs rs μ j = k.times (product k (λ v. sources v whole) (rest vs j)) (ways k sources places row three (combination vs j) rs μ)

module _ (k : Kind) (laws : Laws k) where
  -- a sum by even and odd numbers
  sum_halves : (f : ℕ → k.Value) (a n : ℕ) → sum k f (range_with_len (2 * a) (2 * n)) ≡ sum k (λ j. k.plus (f (2 * j)) (f (2 * j + 1))) (range_with_len a n)
  sum_halves f a zero = refl
  sum_halves f a (suc n) =
      let double : 2 * suc n ≡ suc (suc (2 * n)) = omega arith in
      let next : 2 * a + 1 + 1 ≡ 2 * (a + 1) = omega arith in
      let pair : ℕ → k.Value = λ j. k.plus (f (2 * j)) (f (2 * j + 1)) in
      let after : List ℕ = range_with_len (2 * a + 1 + 1) (2 * n) in
      ap (λ m. sum k f (range_with_len (2 * a) m)) double
      ∙ (sums k laws).cons f (2 * a) ((2 * a + 1) ∷ after) ∙ ap (k.plus (f (2 * a))) ((sums k laws).cons f (2 * a + 1) after)
      ∙ sym (laws.plus_assoc (f (2 * a)) (f (2 * a + 1)) (sum k f after))
      ∙ ap (k.plus (pair a)) (ap (λ m. sum k f (range_with_len m (2 * n))) next ∙ sum_halves f (a + 1) n)
      ∙ sym ((sums k laws).cons pair a (range_with_len (a + 1) n))

  module _ (sources : ℕ → Weights k) (places : ℕ → Weights k) (row : ℕ → ℕ → Bool) where
    abbrev over : List State → List ℕ → List ℕ → (ℕ → Mark) → k.Value
    over = ways k sources places row

    abbrev adds : List ℕ → List ℕ → (ℕ → Mark) → ℕ → k.Value
    adds = chosen k sources places row

    module _ (v : ℕ) (vs rs : List ℕ) (μ : ℕ → Mark) (j : ℕ) where
      chosen_even : k.times (sources v whole) (adds vs rs μ j) ≡ adds (v ∷ vs) rs μ (2 * j)
      chosen_even =
          sym (laws.times_assoc (sources v whole) (product k (λ u. sources u whole) (rest vs j)) (over three (combination vs j) rs μ))
          ∙ ap₂ (λ us cs. k.times us (over three cs rs μ)) (sym ((products k laws).cons (λ u. sources u whole) v (rest vs j)) ∙ ap (product k (λ u. sources u whole)) (sym (rest_even v vs j))) (sym (combination_even v vs j))

      chosen_odd : sum k (λ x. k.times (sources v x) (adds vs rs (marked row μ v x) j)) three ≡ adds (v ∷ vs) rs μ (2 * j + 1)
      chosen_odd =
          let whole_ones : k.Value = product k (λ u. sources u whole) (rest vs j) in
          let faulty : State → k.Value = λ x. over three (combination vs j) rs (marked row μ v x) in
          fold_same (sums k laws) (λ x. k.times (sources v x) (k.times whole_ones (faulty x))) (λ x. k.times whole_ones (k.times (sources v x) (faulty x))) three (λ x. op_swap (products k laws) (sources v x) whole_ones (faulty x))
          ∙ sym (times_sum k laws whole_ones (λ x. k.times (sources v x) (faulty x)) three)
          ∙ ap₂ (λ us cs. k.times (product k (λ u. sources u whole) us) (over three cs rs μ)) (sym (rest_odd v vs j)) (sym (combination_odd v vs j))

    chosen_none : (rs : List ℕ) (μ : ℕ → Mark) → adds [] rs μ 0 ≡ over states [] rs μ
    unfolding combination rest
    chosen_none rs μ = laws.times_unit (over states [] rs μ)

    pub choices : (vs rs : List ℕ) (μ : ℕ → Mark) → over states vs rs μ ≡ sum k (adds vs rs μ) (range_with_len 0 (2 ^ length vs))
    choices [] rs μ = sym (fold_one (sums k laws) (adds [] rs μ) 0 ∙ chosen_none rs μ)
    choices (v ∷ vs) rs μ =
        (sums k laws).cons ours whole three
        ∙ ap₂ k.plus (ap (k.times (sources v whole)) (ap (over states vs rs) unchanged ∙ choices vs rs μ) ∙ first)
        (fold_same (sums k laws) ours (λ x. k.times (sources v x) (sum k (adds vs rs (marked row μ v x)) js)) three (λ x. ap (k.times (sources v x)) (choices vs rs (marked row μ v x))) ∙ second)
        ∙ sym (fold_op (sums k laws) (λ j. adds (v ∷ vs) rs μ (2 * j)) (λ j. adds (v ∷ vs) rs μ (2 * j + 1)) js)
        ∙ sym (sum_halves (adds (v ∷ vs) rs μ) 0 (2 ^ length vs))
        ∙ ap (λ m. sum k (adds (v ∷ vs) rs μ) (range_with_len 0 m)) double
      where
        js : List ℕ
        js = range_with_len 0 (2 ^ length vs)

        ours : State → k.Value
        ours x = k.times (sources v x) (over states vs rs (marked row μ v x))

        double : 2 * 2 ^ length vs ≡ 2 ^ suc (length vs)
        double = omega arith

        unchanged : marked row μ v whole ≡ μ
        unchanged = λ i r. (off (row v r) (μ r)) i
          where
            off : (b : Bool) (m : Mark) → join m (cond b none none) ≡ m
            off true m = join_none m
            off false m = join_none m

        first : k.times (sources v whole) (sum k (adds vs rs μ) js) ≡ sum k (λ j. adds (v ∷ vs) rs μ (2 * j)) js
        first =
            times_sum k laws (sources v whole) (adds vs rs μ) js
            ∙ fold_same (sums k laws) (λ j. k.times (sources v whole) (adds vs rs μ j)) (λ j. adds (v ∷ vs) rs μ (2 * j)) js (chosen_even v vs rs μ)

        second : sum k (λ x. k.times (sources v x) (sum k (adds vs rs (marked row μ v x)) js)) three ≡ sum k (λ j. adds (v ∷ vs) rs μ (2 * j + 1)) js
        second =
            fold_same (sums k laws) (λ x. k.times (sources v x) (sum k (adds vs rs (marked row μ v x)) js)) (λ x. sum k (λ j. k.times (sources v x) (adds vs rs (marked row μ v x) j)) js) three
            (λ x. times_sum k laws (sources v x) (adds vs rs (marked row μ v x)) js)
            ∙ fold_swap (sums k laws) (λ x j. k.times (sources v x) (adds vs rs (marked row μ v x) j)) three js
            ∙ fold_same (sums k laws) (λ j. sum k (λ x. k.times (sources v x) (adds vs rs (marked row μ v x) j)) three) (λ j. adds (v ∷ vs) rs μ (2 * j + 1)) js (chosen_odd v vs rs μ)

-- ---- what a combination leaves whole, in a rising list

pub all_combination : (P : ℕ → Type 0) (vs : List ℕ) (j : ℕ) → All P vs → All P (combination vs j)
unfolding combination
all_combination P [] j h = tt
all_combination P (v ∷ vs) j h =
    let later = all_combination P vs (j / 2) h.1 in
    cond_both (eqb (j % 2) 1) (v ∷ combination vs (j / 2)) (combination vs (j / 2)) (All P) (λ _. (h.0, later)) (λ _. later)

pub rising_combination : (vs : List ℕ) (j : ℕ) → Rising vs → Rising (combination vs j)
unfolding combination
rising_combination [] j h = tt
rising_combination (v ∷ vs) j h =
    let later = rising_combination vs (j / 2) h.1 in
    cond_both (eqb (j % 2) 1) (v ∷ combination vs (j / 2)) (combination vs (j / 2)) Rising (λ _. (all_combination (λ u. v < u) vs (j / 2) h.0, later)) (λ _. later)

pub rest_left_out : (vs : List ℕ) (j : ℕ) → Rising vs → rest vs j ≡ left_out (combination vs j) vs
unfolding combination rest left_out
rest_left_out [] j h = refl
rest_left_out (v ∷ vs) j h = by (eqb (j % 2) 1) (rest_left_out vs (j / 2) h.1)
  where
    others : List ℕ
    others = combination vs (j / 2)

    by : (b : Bool) → rest vs (j / 2) ≡ filter (λ u. not (among others u)) vs
        → cond b (rest vs (j / 2)) (v ∷ rest vs (j / 2)) ≡ filter (λ u. not (among (cond b (v ∷ others) others) u)) (v ∷ vs)
    by true ih =
        ih ∙ kept_same_on (λ u. not (among others u)) (λ u. not (eqb u v || among others u)) vs
        (All-weaker (λ u. v < u) (λ u. not (among others u) ≡ not (eqb u v || among others u)) (λ u lt. ap (λ b. not (b || among others u)) (sym (ne_eqb u v (omega arith)))) vs h.0)
        ∙ ap (λ b. cond (not (b || among others v)) (v ∷ filter (λ u. not (eqb u v || among others u)) vs) (filter (λ u. not (eqb u v || among others u)) vs)) (sym (eq-eqb v v refl))
    by false ih =
        ap (λ l. v ∷ l) ih
        ∙ ap (λ b. cond (not b) (v ∷ filter (λ u. not (among others u)) vs) (filter (λ u. not (among others u)) vs)) (sym (not_among v others (all_combination (λ u. v < u) vs (j / 2) h.0)))

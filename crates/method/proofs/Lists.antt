-- What tests keep of a list, and which numbers stand in one.
use Rattle.std.proofs.Common.{◌≡◌, ℕ, zero, suc, ◌+◌, ◌<◌, Bool, true, false, cond, not, ◌&&◌, eqb, List, [], ◌∷◌, get_or, filter, sym, refl, ap, ◌∙◌, subst, ⊎_elim, arith}
use Rattle.std.specs.List.{range_with_len, AllByRecursion as All}
use Rattle.std.proofs.lemmas.Bool.{and_right, cond_both, eq-eqb, eqb-true, false≢true, ne_eqb, or_cases, or_from, or_left, or_right}
use Rattle.network.proofs.InOrder.{InOrder, in_order_kept}
use Rattle.method.specs.Groups.{among}
use Rattle.sets.specs.Lists.{any}
use Rattle.sets.proofs.Kept.{any_from, any_kept, any_true, kept_same}

module _ {X : Type 0} where
  pub all_each : (P : X → Type 0) → ((x : X) → P x) → (xs : List X) → All P xs
  all_each P f [] = tt
  all_each P f (x ∷ xs) = (f x, all_each P f xs)

  pub all_kept : (p : X → Bool) (P Q : X → Type 0) → ((x : X) → p x ≡ true → P x → Q x) → (xs : List X) → All P xs → All Q (filter p xs)
  all_kept p P Q f [] h = tt
  all_kept p P Q f (x ∷ xs) h =
      let rest = all_kept p P Q f xs h.1 in
      cond_both (p x) (x ∷ filter p xs) (filter p xs) (All Q) (λ e. (f x e h.0, rest)) (λ _. rest)

  pub kept_same_on : (p q : X → Bool) (xs : List X) → All (λ x. p x ≡ q x) xs → filter p xs ≡ filter q xs
  kept_same_on p q [] h = refl
  kept_same_on p q (x ∷ xs) h = λ i. cond (h.0 i) (x ∷ kept_same_on p q xs h.1 i) (kept_same_on p q xs h.1 i)

  pub kept_all : (p : X → Bool) (xs : List X) → All (λ x. p x ≡ true) xs → filter p xs ≡ xs
  kept_all p [] h = refl
  kept_all p (x ∷ xs) h = λ i. cond (h.0 i) (x ∷ kept_all p xs h.1 i) (filter p xs)

  pub kept_no : (p : X → Bool) (xs : List X) → All (λ x. p x ≡ false) xs → filter p xs ≡ []
  kept_no p [] h = refl
  kept_no p (x ∷ xs) h = ap (λ b. cond b (x ∷ filter p xs) (filter p xs)) h.0 ∙ kept_no p xs h.1

  pub kept_twice : (p q : X → Bool) (xs : List X) → filter p (filter q xs) ≡ filter (λ x. q x && p x) xs
  kept_twice p q [] = refl
  kept_twice p q (x ∷ xs) = by (q x) ∙ ap (λ l. cond (q x && p x) (x ∷ l) l) (kept_twice p q xs)
    where
      by : (b : Bool) → filter p (cond b (x ∷ filter q xs) (filter q xs)) ≡ cond (b && p x) (x ∷ filter p (filter q xs)) (filter p (filter q xs))
      by true = refl
      by false = refl

  -- taking out first what p does not pass makes no difference
  pub kept_past : (p q : X → Bool) (xs : List X) → ((x : X) → q x ≡ true → p x ≡ false) → filter p (filter (λ x. not (q x)) xs) ≡ filter p xs
  kept_past p q xs h = kept_twice p (λ x. not (q x)) xs ∙ kept_same (λ x. not (q x) && p x) p xs (λ x. by (q x) (p x) (h x))
    where
      by : (a b : Bool) → (a ≡ true → b ≡ false) → (not a && b) ≡ b
      by true b f = sym (f refl)
      by false b f = refl

-- each number is less than all that follow
abbrev pub Rising : List ℕ → Type 0
Rising = InOrder (λ a b. a < b)

all_above : (low a n : ℕ) → low < a → All (λ k. low < k) (range_with_len a n)
all_above low a zero h = tt
all_above low a (suc n) h = (h, all_above low (a + 1) n (omega arith))

pub rising_counting : (a n : ℕ) → Rising (range_with_len a n)
rising_counting a zero = tt
rising_counting a (suc n) = (all_above a (a + 1) n (omega arith), rising_counting (a + 1) n)

pub rising_kept : (p : ℕ → Bool) (a n : ℕ) → Rising (filter p (range_with_len a n))
rising_kept p a n = in_order_kept (λ x y. x < y) p (range_with_len a n) (rising_counting a n)

pub not_among : (v : ℕ) (xs : List ℕ) → All (λ x. v < x) xs → among xs v ≡ false
not_among v [] h = refl
not_among v (x ∷ xs) h = or_from (eqb v x) (among xs v) (ne_eqb v x (omega (arith, h.0))) (not_among v xs h.1)

-- what holds of the numbers that stand in a list
pub all_among : (P : ℕ → Type 0) (xs : List ℕ) → ((x : ℕ) → among xs x ≡ true → P x) → All P xs
all_among P [] f = tt
all_among P (x ∷ xs) f = (f x (or_left (eqb x x) (among xs x) (eq-eqb x x refl)), all_among P xs (λ y h. f y (or_right (eqb y x) (among xs y) h)))

pub among_all : (P : ℕ → Type 0) (xs : List ℕ) (x : ℕ) → All P xs → among xs x ≡ true → P x
among_all P [] x h e = absurd (false≢true e)
among_all P (y ∷ xs) x h e = ⊎_elim (λ s. subst P (sym (eqb-true x y s)) h.0) (among_all P xs x h.1) (or_cases (eqb x y) (among xs x) e)

pub any_among : (test : ℕ → Bool) (xs : List ℕ) (x : ℕ) → among xs x ≡ true → test x ≡ true → any test xs ≡ true
any_among test [] x here e = absurd (false≢true here)
any_among test (y ∷ xs) x here e =
    ⊎_elim (λ s. or_left (test y) (any test xs) (ap test (sym (eqb-true x y s)) ∙ e)) (λ p. or_right (test y) (any test xs) (any_among test xs x p e)) (or_cases (eqb x y) (among xs x) here)

pub some_among : (test : ℕ → Bool) (xs : List ℕ) → any test xs ≡ true → (x : ℕ) × (among xs x ≡ true) × (test x ≡ true)
some_among test xs e =
    let r = any_true test xs 0 e in
    let x = get_or xs r.0 0 in
    (x, any_from (eqb x) xs 0 r.0 r.1 (eq-eqb x x refl), r.2)

-- ---- one element among those kept

module _ {X : Type 0} where
  any_both : (c : Bool) (s : X → Bool) (xs : List X) → any (λ x. c && s x) xs ≡ (c && any s xs)
  any_both true s xs = refl
  any_both false s [] = refl
  any_both false s (x ∷ xs) = any_both false s xs

  -- a test that tells one element, at which the other test says c
  pub any_kept_one : (s t : X → Bool) (c : Bool) (xs : List X) → ((x : X) → s x ≡ true → t x ≡ c) → any s (filter t xs) ≡ (c && any s xs)
  any_kept_one s t c xs h = any_kept s t xs ∙ (λ i. any (λ x. by (s x) (t x) (h x) i) xs) ∙ any_both c s xs
    where
      by : (a b : Bool) → (a ≡ true → b ≡ c) → (b && a) ≡ (c && a)
      by true b f = ap (λ d. d && true) (f refl)
      by false b f = and_right b false refl ∙ sym (and_right c false refl)

pub among_kept : (t : ℕ → Bool) (xs : List ℕ) (x : ℕ) → among (filter t xs) x ≡ (t x && among xs x)
among_kept t xs x = any_kept_one (eqb x) t (t x) xs (λ y e. ap t (sym (eqb-true x y e)))

-- ---- order

pub in_order_with : {X : Type 0} (R S : X → X → Type 0) (P : X → Type 0) → ((x y : X) → P x → P y → R x y → S x y) → (xs : List X) → All P xs → InOrder R xs → InOrder S xs
in_order_with {X} R S P f [] h o = tt
in_order_with {X} R S P f (x ∷ xs) h o = (each xs h.1 o.0, in_order_with R S P f xs h.1 o.1)
  where
    each : (ys : List X) → All P ys → All (R x) ys → All (S x) ys
    each [] g l = tt
    each (y ∷ ys) g l = (f x y h.0 g.0 l.0, each ys g.1 l.1)

-- two tests that pass together are one
pub same_test : (a b : Bool) → (a ≡ true → b ≡ true) → (b ≡ true → a ≡ true) → a ≡ b
same_test true b f g = sym (f refl)
same_test false true f g = g refl
same_test false false f g = refl

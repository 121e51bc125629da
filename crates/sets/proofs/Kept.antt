-- What a test keeps of a list, and whether it holds of some element.
use Rattle.std.proofs.Common.{◌≡◌, ℕ, zero, suc, ◌+◌, ◌<◌, ◌≤◌, Bool, true, false, cond, not, ◌&&◌, ◌||◌, eqb, List, [], ◌∷◌, ◌++◌, map, length, get_or, Some, None, filter, sym, refl, ap, ◌∙◌, inl, inr, ⊎_elim, arith}
use Rattle.std.specs.List.{range_with_len, flat_map}
use Rattle.std.proofs.lemmas.List.FromFn.{length-range_with_len, get_or-range_with_len}
use Rattle.std.proofs.lemmas.Bool.{and_from, and_parts, both_ways, cases_Bool, cases_eq, eq-eqb, ne_eqb, eqb-true, false≢true}
use Rattle.sets.specs.Lists.{any, first_of}

-- ---- two tests over one list

pub kept_same : {X : Type 0} (p q : X → Bool) (xs : List X) → ((x : X) → p x ≡ q x) → filter p xs ≡ filter q xs
kept_same p q [] h = refl
kept_same p q (x ∷ xs) h = λ i. cond (h x i) (x ∷ kept_same p q xs h i) (kept_same p q xs h i)

pub length_kept_le : {X : Type 0} (p : X → Bool) (xs : List X) → length (filter p xs) ≤ length xs
length_kept_le p [] = omega arith
length_kept_le p (x ∷ xs) = one (p x) (length_kept_le p xs)
  where
    one : (b : Bool) → length (filter p xs) ≤ length xs → length (cond b (x ∷ filter p xs) (filter p xs)) ≤ suc (length xs)
    one true h = omega arith
    one false h = omega arith

module _ {X : Type 0} where
  more : (a b : Bool) (x : X) (us vs : List X) → (a ≡ true → b ≡ true) → length us ≤ length vs → length (cond a (x ∷ us) us) ≤ length (cond b (x ∷ vs) vs)
  more true true x us vs h le = omega arith
  more true false x us vs h le = absurd (false≢true (h refl))
  more false true x us vs h le = omega arith
  more false false x us vs h le = le

  here : (a b : Bool) (x : X) (us vs : List X) → length us ≤ length vs → length (cond b (x ∷ vs) vs) ≤ length (cond a (x ∷ us) us) → b ≡ true → a ≡ true
  here true b x us vs le full e = refl
  here false true x us vs le full e = absurd (omega arith)
  here false false x us vs le full e = e

  rest : (a b : Bool) (x : X) (us vs : List X) → (a ≡ true → b ≡ true) → length (cond b (x ∷ vs) vs) ≤ length (cond a (x ∷ us) us) → length vs ≤ length us
  rest true true x us vs h full = omega arith
  rest true false x us vs h full = absurd (false≢true (h refl))
  rest false true x us vs h full = omega arith
  rest false false x us vs h full = full

-- q passes all that p does
module _ {X : Type 0} (p q : X → Bool) (sub : (x : X) → p x ≡ true → q x ≡ true) where
  pub kept_more : (xs : List X) → length (filter p xs) ≤ length (filter q xs)
  kept_more [] = omega arith
  kept_more (x ∷ xs) = more (p x) (q x) x (filter p xs) (filter q xs) (sub x) (kept_more xs)

  -- and no more in number, so p passes all that q does
  pub kept_full : (xs : List X) (d : X) → length (filter q xs) ≤ length (filter p xs) → (i : ℕ) → i < length xs → q (get_or xs i d) ≡ true → p (get_or xs i d) ≡ true
  kept_full [] d full i lt e = absurd (omega arith)
  kept_full (x ∷ xs) d full zero lt e = here (p x) (q x) x (filter p xs) (filter q xs) (kept_more xs) full e
  kept_full (x ∷ xs) d full (suc i) lt e = kept_full xs d (rest (p x) (q x) x (filter p xs) (filter q xs) (sub x) full) i (omega arith) e

pub kept_full_below : (p q : ℕ → Bool) → ((k : ℕ) → p k ≡ true → q k ≡ true) → (n : ℕ) → length (filter q (range_with_len 0 n)) ≤ length (filter p (range_with_len 0 n)) → (k : ℕ) → k < n → q k ≡ true → p k ≡ true
kept_full_below p q sub n full k lt e =
    let same : get_or (range_with_len 0 n) k 0 ≡ k = get_or-range_with_len 0 n k 0 lt ∙ omega arith in
    let within : k < length (range_with_len 0 n) = omega (arith, length-range_with_len 0 n) in
    ap p (sym same) ∙ kept_full p q sub (range_with_len 0 n) 0 full k within (ap q same ∙ e)

-- ---- some element passes

pub any_true : {X : Type 0} (p : X → Bool) (xs : List X) (d : X) → any p xs ≡ true → (i : ℕ) × (i < length xs) × (p (get_or xs i d) ≡ true)
any_true p [] d e = absurd (false≢true e)
any_true p (x ∷ xs) d e = one (p x) refl e (any_true p xs d)
  where
    one : (b : Bool) → p x ≡ b → (b || any p xs) ≡ true → (any p xs ≡ true → (i : ℕ) × (i < length xs) × (p (get_or xs i d) ≡ true)) → (i : ℕ) × (i < suc (length xs)) × (p (get_or (x ∷ xs) i d) ≡ true)
    one true h e later = (0, omega arith, h)
    one false h e later = let r = later e in (suc r.0, omega arith, r.2)

pub any_from : {X : Type 0} (p : X → Bool) (xs : List X) (d : X) (i : ℕ) → i < length xs → p (get_or xs i d) ≡ true → any p xs ≡ true
any_from p [] d i lt e = absurd (omega arith)
any_from p (x ∷ xs) d zero lt e = ap (λ b. b || any p xs) e
any_from p (x ∷ xs) d (suc i) lt e = ap (λ b. p x || b) (any_from p xs d i (omega arith) e) ∙ or_true (p x)
  where
    or_true : (b : Bool) → (b || true) ≡ true
    or_true true = refl
    or_true false = refl

pub any_below_true : (p : ℕ → Bool) (n : ℕ) → any p (range_with_len 0 n) ≡ true → (k : ℕ) × (k < n) × (p k ≡ true)
any_below_true p n e =
    let r = any_true p (range_with_len 0 n) 0 e in
    let lt : r.0 < n = omega (arith, length-range_with_len 0 n) in
    let same : r.0 ≡ get_or (range_with_len 0 n) r.0 0 = omega (arith, get_or-range_with_len 0 n r.0 0 lt) in
    (r.0, lt, ap p same ∙ r.2)

pub any_below_from : (p : ℕ → Bool) (n k : ℕ) → k < n → p k ≡ true → any p (range_with_len 0 n) ≡ true
any_below_from p n k lt e =
    let same : get_or (range_with_len 0 n) k 0 ≡ k = omega (arith, get_or-range_with_len 0 n k 0 lt) in
    any_from p (range_with_len 0 n) 0 k (omega (arith, length-range_with_len 0 n)) (ap p same ∙ e)

pub any_append : {X : Type 0} (p : X → Bool) (xs ys : List X) → any p (xs ++ ys) ≡ (any p xs || any p ys)
any_append p [] ys = refl
any_append p (x ∷ xs) ys = rw (any_append p xs ys) (assoc (p x) (any p xs) (any p ys))
  where
    assoc : (a b c : Bool) → (a || (b || c)) ≡ ((a || b) || c)
    assoc true b c = refl
    assoc false b c = refl

pub any_joined : {X Y : Type 0} (p : Y → Bool) (f : X → List Y) (xs : List X) → any p (flat_map f xs) ≡ any (λ x. any p (f x)) xs
any_joined p f [] = refl
any_joined p f (x ∷ xs) = any_append p (f x) (flat_map f xs) ∙ ap (λ b. any p (f x) || b) (any_joined p f xs)

pub any_map : {X Y : Type 0} (p : Y → Bool) (f : X → Y) (xs : List X) → any p (map f xs) ≡ any (λ x. p (f x)) xs
any_map p f [] = refl
any_map p f (x ∷ xs) = ap (λ b. p (f x) || b) (any_map p f xs)

-- ---- what a test keeps of the numbers from a on

pub counting_split : (a m n : ℕ) → range_with_len a (m + n) ≡ range_with_len a m ++ range_with_len (a + m) n
counting_split a zero n =
    let e : 0 + n ≡ n = omega arith in let f : a ≡ a + 0 = omega arith in ap (range_with_len a) e ∙ ap (λ x. range_with_len x n) f
counting_split a (suc m) n =
    let e : suc m + n ≡ suc (m + n) = omega arith in let f : a + 1 + m ≡ a + suc m = omega arith in
    ap (range_with_len a) e ∙ ap (λ l. a ∷ l) (counting_split (a + 1) m n ∙ ap (λ x. range_with_len (a + 1) m ++ range_with_len x n) f)

-- an element stands among those kept if it passes
pub any_kept : {X : Type 0} (p q : X → Bool) (xs : List X) → any p (filter q xs) ≡ any (λ x. q x && p x) xs
any_kept p q [] = refl
any_kept p q (x ∷ xs) = one (q x) (any_kept p q xs)
  where
    one : (b : Bool) → any p (filter q xs) ≡ any (λ y. q y && p y) xs → any p (cond b (x ∷ filter q xs) (filter q xs)) ≡ ((b && p x) || any (λ y. q y && p y) xs)
    one true e = ap (λ c. p x || c) e
    one false e = e

pub in_kept : (q : ℕ → Bool) (n k : ℕ) → k < n → any (eqb k) (filter q (range_with_len 0 n)) ≡ q k
in_kept q n k lt = any_kept (eqb k) q (range_with_len 0 n) ∙ ⊎_elim (λ h. any_below_from (λ x. q x && eqb k x) n k lt (and_from _ _ h (eq-eqb k k refl)) ∙ sym h) (λ h. none h) (cases_Bool (q k))
  where
    none : q k ≡ false → any (λ x. q x && eqb k x) (range_with_len 0 n) ≡ q k
    none h =
        ⊎_elim
        (λ e. let r = any_below_true (λ x. q x && eqb k x) n e in
        let both = and_parts (q r.0) (eqb k r.0) r.2 in
        absurd (both_ways (q k) h (ap q (eqb-true k r.0 both.1) ∙ both.0)))
        (λ e. e ∙ sym h)
        (cases_Bool (any (λ x. q x && eqb k x) (range_with_len 0 n)))

-- one number more
pub any_below_more : (p : ℕ → Bool) (n : ℕ) → any p (range_with_len 0 (n + 1)) ≡ (any p (range_with_len 0 n) || p n)
any_below_more p n =
    let e : 0 + n ≡ n = omega arith in
    ap (any p) (counting_split 0 n 1) ∙ any_append p (range_with_len 0 n) (range_with_len (0 + n) 1) ∙ ap (λ b. any p (range_with_len 0 n) || b) (or_false (p (0 + n)) ∙ ap p e)
  where
    or_false : (b : Bool) → (b || false) ≡ b
    or_false true = refl
    or_false false = refl

module _ (p : ℕ → Bool) where
  pub kept_none : (a n : ℕ) → ((k : ℕ) → a ≤ k → k < a + n → p k ≡ false) → filter p (range_with_len a n) ≡ []
  kept_none a zero h = refl
  kept_none a (suc n) h =
      ap (λ b. cond b (a ∷ filter p (range_with_len (a + 1) n)) (filter p (range_with_len (a + 1) n))) (h a (omega arith) (omega arith))
      ∙ kept_none (a + 1) n (λ k l u. h k (omega arith) (omega arith))

  -- i is the least of a, a + 1, .. that passes
  abbrev pub Least : ℕ → ℕ → ℕ → Type 0
  Least a n i = (p i ≡ true) × (a ≤ i) × (i < a + n) × ((k : ℕ) → a ≤ k → k < i → p k ≡ false)

  same_or_later : (a k : ℕ) → a ≤ k → p a ≡ false → (a + 1 ≤ k → p k ≡ false) → p k ≡ false
  same_or_later a k le e later = elim (cases_eq a k) [ inl s ↦ ap p (sym s) ∙ e | inr ne ↦ later (omega arith) ]

  pub kept_first : (a n i : ℕ) → first_of (filter p (range_with_len a n)) ≡ Some i → Least a n i
  kept_first a zero i e = let z : ◌≡◌ {A = ℕ} 0 1 = cc in absurd (omega arith)
  kept_first a (suc n) i e = one (p a) refl e (kept_first (a + 1) n i)
    where
      one : (b : Bool) → p a ≡ b → first_of (cond b (a ∷ filter p (range_with_len (a + 1) n)) (filter p (range_with_len (a + 1) n))) ≡ Some i
          → (first_of (filter p (range_with_len (a + 1) n)) ≡ Some i → Least (a + 1) n i) → Least a (suc n) i
      one true h e later = let s : a ≡ i = cc in (ap p (sym s) ∙ h, omega arith, omega arith, λ k l u. absurd (omega arith))
      one false h e later = let r = later e in (r.0, omega arith, omega arith, λ k l u. same_or_later a k l h (λ m. r.3 k m u))

  pub kept_first_none : (a n : ℕ) → first_of (filter p (range_with_len a n)) ≡ None → (k : ℕ) → a ≤ k → k < a + n → p k ≡ false
  kept_first_none a zero e k l u = absurd (omega arith)
  kept_first_none a (suc n) e k l u = one (p a) refl e (kept_first_none (a + 1) n)
    where
      one : (b : Bool) → p a ≡ b → first_of (cond b (a ∷ filter p (range_with_len (a + 1) n)) (filter p (range_with_len (a + 1) n))) ≡ None
          → (first_of (filter p (range_with_len (a + 1) n)) ≡ None → (k : ℕ) → a + 1 ≤ k → k < a + 1 + n → p k ≡ false) → p k ≡ false
      one true h e later = let z : ◌≡◌ {A = ℕ} 0 1 = cc in absurd (omega arith)
      one false h e later = same_or_later a k l h (λ m. later e k m (omega arith))

-- two tests that agree on the numbers from a on keep the same of them
pub kept_agree : (p q : ℕ → Bool) (a n : ℕ) → ((k : ℕ) → a ≤ k → k < a + n → p k ≡ q k) → filter p (range_with_len a n) ≡ filter q (range_with_len a n)
kept_agree p q a zero h = refl
kept_agree p q a (suc n) h =
    let rest = kept_agree p q (a + 1) n (λ k l u. h k (omega arith) (omega arith)) in
    λ i. cond (h a (omega arith) (omega arith) i) (a ∷ rest i) (rest i)

-- what a test keeps is the least, and then what is kept without it
module _ (p q : ℕ → Bool) (i : ℕ) (without : (k : ℕ) → q k ≡ (p k && not (eqb k i))) where
  at_first : (a : ℕ) → a ≡ i → q a ≡ false
  at_first a s = without a ∙ ap (λ b. p a && not b) (eq-eqb a i s) ∙ and_right (p a)
    where
      and_right : (b : Bool) → (b && false) ≡ false
      and_right true = refl
      and_right false = refl

  past_first : (k : ℕ) → i + 1 ≤ k → p k ≡ q k
  past_first k l = sym (without k ∙ ap (λ b. p k && not b) (ne_eqb k i (λ s. absurd (omega arith))) ∙ and_true (p k))
    where
      and_true : (b : Bool) → (b && true) ≡ b
      and_true true = refl
      and_true false = refl

  pub kept_after_first : (a n : ℕ) → first_of (filter p (range_with_len a n)) ≡ Some i → filter p (range_with_len a n) ≡ i ∷ filter q (range_with_len a n)
  kept_after_first a zero e = let z : ◌≡◌ {A = ℕ} 0 1 = cc in absurd (omega arith)
  kept_after_first a (suc n) e = one (p a) refl e (kept_after_first (a + 1) n)
    where
      kept : List ℕ
      kept = filter p (range_with_len (a + 1) n)

      left : List ℕ
      left = filter q (range_with_len (a + 1) n)

      dropped : q a ≡ false → left ≡ cond (q a) (a ∷ left) left
      dropped out = sym (ap (λ c. cond c (a ∷ left) left) out)

      one : (b : Bool) → p a ≡ b → first_of (cond b (a ∷ kept) kept) ≡ Some i → (first_of kept ≡ Some i → kept ≡ i ∷ left) → cond b (a ∷ kept) kept ≡ i ∷ cond (q a) (a ∷ left) left
      one true h e later =
          let s : a ≡ i = cc in
          ap (λ k. k ∷ kept) s ∙ ap (λ l. i ∷ l) (kept_agree p q (a + 1) n (λ k l u. past_first k (omega arith)) ∙ dropped (at_first a s))
      one false h e later = later e ∙ ap (λ l. i ∷ l) (dropped (without a ∙ ap (λ b. b && not (eqb a i)) h))

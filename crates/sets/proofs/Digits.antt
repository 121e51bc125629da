-- The bits of a word: of and, or, xor and a power of two, how many are 1, and which is the lowest.
use Rattle.std.proofs.Common.{◌≡◌, ℕ, zero, suc, ◌+◌, ◌-◌, ◌*◌, ◌/◌, ◌%◌, ◌^◌, ◌<◌, Bool, true, false, cond, not, ◌&&◌, ◌||◌, eqb, ltb, List, ◌∷◌, length, Some, filter, sym, refl, ap, ◌∙◌, div-one, add-one, one-add, arith, pow_pos}
use native.Mathlib.Nat.{zero-div}
use lib.Arith.{lt-one}
use lib.Bits.{bit_and, bit_or, bit_xor, shifted_half, shifted_even}
use lib.Count.{ones, ones_step, count_trailing_zeros, under}
use lib.Dec.{eqb-zero-suc, eqb-suc-zero, eqb-suc-suc}
use Rattle.std.specs.List.{range_with_len}
use Rattle.std.proofs.lemmas.Nat.{shr-shr, shr_below, mod_below, and_shr, or_shr, xor_shr, and_mod, or_mod, xor_mod}
use Rattle.std.proofs.lemmas.Bool.{false≢true, le-ltb, lt-ltb}
use Rattle.std.proofs.lemmas.Bool.Decides.{nat_tests}
use Rattle.sets.specs.Lists.{any, first_of}

-- bit k of n is 1
abbrev pub bit : ℕ → ℕ → Bool
bit n k = eqb (n / 2 ^ k % 2) 1

bit_zero : (n : ℕ) → bit n 0 ≡ eqb (n % 2) 1
bit_zero n = ap (λ x. eqb (x % 2) 1) (div-one n)

bit_step : (n k : ℕ) → bit n (suc k) ≡ bit (n / 2) k
bit_step n k = ap (λ j. bit n j) (sym (one-add k)) ∙ ap (λ x. eqb (x % 2) 1) (sym (shr-shr n 1 k))

-- words with the same bits are the same
pub bits_same : (n a b : ℕ) → a < 2 ^ n → b < 2 ^ n → ((k : ℕ) → k < n → bit a k ≡ bit b k) → a ≡ b
bits_same zero a b ha hb same = omega arith
bits_same (suc n) a b ha hb same =
    let halves : a / 2 ≡ b / 2 = bits_same n (a / 2) (b / 2) (omega arith) (omega arith) (λ k h. sym (bit_step a k) ∙ same (suc k) (omega arith) ∙ bit_step b k) in
    let last : a % 2 ≡ b % 2 = lasts (a % 2) (b % 2) (omega arith) (omega arith) (sym (bit_zero a) ∙ same 0 (omega arith) ∙ bit_zero b) in
    omega (arith, halves, last)
  where
    lasts : (x y : ℕ) → x < 2 → y < 2 → eqb x 1 ≡ eqb y 1 → x ≡ y
    lasts zero zero p q e = refl
    lasts zero (suc zero) p q e = absurd (false≢true e)
    lasts zero (suc (suc y)) p q e = absurd (omega arith)
    lasts (suc zero) zero p q e = absurd (false≢true (sym e))
    lasts (suc zero) (suc zero) p q e = refl
    lasts (suc zero) (suc (suc y)) p q e = absurd (omega arith)
    lasts (suc (suc x)) y p q e = absurd (omega arith)

pub bit_none : (k : ℕ) → bit 0 k ≡ false
bit_none k = ap (λ x. eqb (x % 2) 1) (zero-div (2 ^ k))

-- an operation on two bits, from its four values
module _ (f : ℕ → ℕ → ℕ) (g : Bool → Bool → Bool) (oo : eqb (f 0 0) 1 ≡ g false false) (ol : eqb (f 0 1) 1 ≡ g false true) (lo : eqb (f 1 0) 1 ≡ g true false) (ll : eqb (f 1 1) 1 ≡ g true true) where
  by_values : (x y : ℕ) → x < 2 → y < 2 → eqb (f x y) 1 ≡ g (eqb x 1) (eqb y 1)
  by_values zero zero p q = oo
  by_values zero (suc zero) p q = ol
  by_values zero (suc (suc y)) p q = absurd (omega arith)
  by_values (suc zero) zero p q = lo
  by_values (suc zero) (suc zero) p q = ll
  by_values (suc zero) (suc (suc y)) p q = absurd (omega arith)
  by_values (suc (suc x)) y p q = absurd (omega arith)

  on_bits : (a b k : ℕ) → eqb (f (a / 2 ^ k % 2) (b / 2 ^ k % 2)) 1 ≡ g (bit a k) (bit b k)
  on_bits a b k = by_values (a / 2 ^ k % 2) (b / 2 ^ k % 2) (mod_below (a / 2 ^ k) 2 (omega arith)) (mod_below (b / 2 ^ k) 2 (omega arith))

pub bit_of_and : (a b k : ℕ) → bit (bit_and a b) k ≡ (bit a k && bit b k)
bit_of_and a b k =
    ap (λ x. eqb (x % 2) 1) (and_shr a b k) ∙ ap (λ x. eqb x 1) (and_mod (a / 2 ^ k) (b / 2 ^ k) 1)
    ∙ on_bits bit_and ◌&&◌ refl refl refl refl a b k

pub bit_of_or : (a b k : ℕ) → bit (bit_or a b) k ≡ (bit a k || bit b k)
bit_of_or a b k =
    ap (λ x. eqb (x % 2) 1) (or_shr a b k) ∙ ap (λ x. eqb x 1) (or_mod (a / 2 ^ k) (b / 2 ^ k) 1)
    ∙ on_bits bit_or ◌||◌ refl refl refl refl a b k

-- xor with 1 turns a bit, and with 0 leaves it
pub bit_of_xor : (a b k : ℕ) → bit (bit_xor a b) k ≡ cond (bit b k) (not (bit a k)) (bit a k)
bit_of_xor a b k =
    ap (λ x. eqb (x % 2) 1) (xor_shr a b k) ∙ ap (λ x. eqb x 1) (xor_mod (a / 2 ^ k) (b / 2 ^ k) 1)
    ∙ on_bits bit_xor (λ x y. cond y (not x) x) refl refl refl refl a b k

half_pow : (i : ℕ) → 2 ^ suc i / 2 ≡ 2 ^ i
half_pow i =
    let e : 1 * 2 ^ suc i ≡ 2 ^ suc i = omega arith in let f : 1 * 2 ^ i ≡ 2 ^ i = omega arith in
    ap (λ x. x / 2) (sym e) ∙ shifted_half 1 i ∙ f

even_pow : (i : ℕ) → 2 ^ suc i % 2 ≡ 0
even_pow i = let e : 1 * 2 ^ suc i ≡ 2 ^ suc i = omega arith in ap (λ x. x % 2) (sym e) ∙ shifted_even 1 i

pub bit_pow : (i k : ℕ) → bit (2 ^ i) k ≡ eqb k i
bit_pow zero zero = refl
bit_pow zero (suc k) = bit_step 1 k ∙ bit_none k ∙ sym (eqb-suc-zero k)
bit_pow (suc i) zero = bit_zero (2 ^ suc i) ∙ ap (λ x. eqb x 1) (even_pow i) ∙ sym (eqb-zero-suc i)
bit_pow (suc i) (suc k) = bit_step (2 ^ suc i) k ∙ ap (λ n. bit n k) (half_pow i) ∙ bit_pow i k ∙ sym (eqb-suc-suc k i)

-- the bits of one less than a power of two are 1 below it
half_ones : (n : ℕ) → (2 ^ suc n - 1) / 2 ≡ 2 ^ n - 1
half_ones n = let e : 2 ^ suc n ≡ 2 * 2 ^ n = omega arith in omega (arith, e)

odd_ones : (n : ℕ) → (2 ^ suc n - 1) % 2 ≡ 1
odd_ones n = let e : 2 ^ suc n ≡ 2 * 2 ^ n = omega arith in let p : 0 < 2 ^ n = pow_pos n in omega (arith, e, p)

pub bit_ones : (n k : ℕ) → bit (2 ^ n - 1) k ≡ ltb k n
bit_ones zero k = bit_none k ∙ sym (le-ltb k 0 (omega arith))
bit_ones (suc n) zero = bit_zero (2 ^ suc n - 1) ∙ ap (λ x. eqb x 1) (odd_ones n) ∙ sym (lt-ltb 0 (suc n) (omega arith))
bit_ones (suc n) (suc k) = bit_step (2 ^ suc n - 1) k ∙ ap (λ x. bit x k) (half_ones n) ∙ bit_ones n k ∙ grind (arith, nat_tests)

half_below : (n m : ℕ) → n < 2 ^ suc m → n / 2 < 2 ^ m
half_below n m h = shr_below n m 1 (rw add-one h)

-- one step of each count below: d is the lowest bit
counted : (b : Bool) (d x : ℕ) (xs : List ℕ) → d < 2 → b ≡ eqb d 1 → d + length xs ≡ length (cond b (x ∷ xs) xs)
counted b zero x xs h e = omega arith ∙ ap (λ v. length (cond v (x ∷ xs) xs)) (sym e)
counted b (suc zero) x xs h e = omega arith ∙ ap (λ v. length (cond v (x ∷ xs) xs)) (sym e)
counted b (suc (suc d)) x xs h e = absurd (omega arith)

lowest : (b : Bool) (d a r : ℕ) (xs : List ℕ) → d < 2 → b ≡ eqb d 1 → (d ≡ 0 → Some (a + 1 + r) ≡ first_of xs) → Some (a + under d r) ≡ first_of (cond b (a ∷ xs) xs)
lowest b zero a r xs h e rest =
    let on : a + suc r ≡ a + 1 + r = omega arith in
    ap Some on ∙ rest refl ∙ ap (λ v. first_of (cond v (a ∷ xs) xs)) (sym e)
lowest b (suc zero) a r xs h e rest =
    let on : a + 0 ≡ a = omega arith in
    ap Some on ∙ ap (λ v. first_of (cond v (a ∷ xs) xs)) (sym e)
lowest b (suc (suc d)) a r xs h e rest = absurd (omega arith)

some_bit : (n : ℕ) → not (eqb n 0) ≡ (eqb (n % 2) 1 || not (eqb (n / 2) 0))
some_bit n = grind (arith, nat_tests)

-- p tells the bits of a word n of m bits, from a on
module _ (p : ℕ → Bool) where
  abbrev pub Tells : ℕ → ℕ → ℕ → Type 0
  Tells a m n = (k : ℕ) → k < m → p (a + k) ≡ bit n k

  first_bit : (a m n : ℕ) → Tells a (suc m) n → p a ≡ eqb (n % 2) 1
  first_bit a m n t = let e : a ≡ a + 0 = omega arith in ap p e ∙ t 0 (omega arith) ∙ bit_zero n

  other_bits : (a m n : ℕ) → Tells a (suc m) n → Tells (a + 1) m (n / 2)
  other_bits a m n t k h = let e : a + 1 + k ≡ a + suc k = omega arith in ap p e ∙ t (suc k) (omega arith) ∙ bit_step n k

  pub ones_kept : (m a n : ℕ) → n < 2 ^ m → Tells a m n → ones n ≡ length (filter p (range_with_len a m))
  unfolding ones
  ones_kept zero a n h t = ap ones (lt-one h)
  ones_kept (suc m) a n h t =
      ones_step n ∙ ap (λ x. n % 2 + x) (ones_kept m (a + 1) (n / 2) (half_below n m h) (other_bits a m n t))
      ∙ counted (p a) (n % 2) a (filter p (range_with_len (a + 1) m)) (omega arith) (first_bit a m n t)

  pub nonzero_any : (m a n : ℕ) → n < 2 ^ m → Tells a m n → not (eqb n 0) ≡ any p (range_with_len a m)
  nonzero_any zero a n h t = ap (λ x. not (eqb x 0)) (lt-one h)
  nonzero_any (suc m) a n h t =
      some_bit n ∙ (λ i. sym (first_bit a m n t) i || nonzero_any m (a + 1) (n / 2) (half_below n m h) (other_bits a m n t) i)

  pub trailing_first : (m a n : ℕ) → n < 2 ^ m → (n ≡ 0 → ⊥) → Tells a m n → Some (a + count_trailing_zeros m n) ≡ first_of (filter p (range_with_len a m))
  unfolding count_trailing_zeros
  trailing_first zero a n h some t = absurd (some (lt-one h))
  trailing_first (suc m) a n h some t =
      lowest (p a) (n % 2) a (count_trailing_zeros m (n / 2)) (filter p (range_with_len (a + 1) m)) (omega arith) (first_bit a m n t)
      (λ e. trailing_first m (a + 1) (n / 2) (half_below n m h) (λ z. some (omega arith)) (other_bits a m n t))

-- The digits that a text begins with: how many there are, what each is, and their number.
use Rattle.std.proofs.Common.{◌≡◌, ℕ, ◌-◌, ◌^◌, ◌<◌, ◌≤◌, true, cond, List, [], ◌∷◌, map, length, get_or, drop, sym, refl, ap, ◌∙◌, inl, inr, zero-lt-suc, arith}
use native.Mathlib.Nat.{pow-le-pow_right}
use Rattle.std.proofs.lemmas.Int.Digits.{number_lt, number_after_ge}
use Rattle.std.proofs.lemmas.List.{length-map, length-take-le}
use Rattle.std.proofs.lemmas.List.Sums.{prefix_len-le-length, prefix_len_passes, take_while-cons}
use Rattle.std.proofs.lemmas.Bool.{cases_Bool}
use Rattle.std.proofs.lemmas.Bool.Decides.{nat_tests}
use Rattle.std.specs.Int.Digits.{AllBelowBase, number_from_digits_after}
use Rattle.std.specs.List.{prefix_len, take_while}
use Rattle.text.specs.Fields.{is_digit, leading_digits, value_of}

-- a digit in words of numbers
pub digit_range : (b : ℕ) → is_digit b ≡ true → (48 ≤ b) × (b ≤ 57)
digit_range b h = (grind (arith, nat_tests), grind (arith, nat_tests))

-- the digits are the front of the text, as long as there are digits
pub leading_front : (xs : List ℕ) → leading_digits xs ≡ take_while is_digit xs
unfolding leading_digits
leading_front [] = refl
leading_front (x ∷ xs) = ap (λ ds. cond (is_digit x) (x ∷ ds) []) (leading_front xs) ∙ sym (take_while-cons is_digit x xs)

pub length_leading : (xs : List ℕ) → length (leading_digits xs) ≡ prefix_len is_digit xs
length_leading xs = ap length (leading_front xs) ∙ length-take-le (prefix_len is_digit xs) xs (prefix_len-le-length is_digit xs)

-- they are digits throughout
pub leading_leading : (xs : List ℕ) → leading_digits (leading_digits xs) ≡ leading_digits xs
unfolding leading_digits
leading_leading [] = refl
leading_leading (x ∷ xs) = elim (cases_Bool (is_digit x)) [
  | inl e ↦ rw (e, e) (ap (λ ds. x ∷ ds) (leading_leading xs))
  | inr e ↦ rw e refl
]

pub digit_at : (xs : List ℕ) (i : ℕ) → i < length (leading_digits xs) → is_digit (get_or xs i 0) ≡ true
digit_at xs i h = prefix_len_passes is_digit xs i 0 (omega (arith, length_leading xs))

pub digit_least : (digits : List ℕ) (i : ℕ) → leading_digits digits ≡ digits → i < length digits → 48 ≤ get_or digits i 0
digit_least digits i all h = (digit_range (get_or digits i 0) (digit_at digits i (rw all h))).0

pub under_leading : (xs : List ℕ) → AllBelowBase 10 (map (λ b. b - 48) (leading_digits xs))
unfolding leading_digits
under_leading [] = tt
under_leading (x ∷ xs) = elim (cases_Bool (is_digit x)) [
  | inl e ↦ rw e (omega (arith, digit_range x e), under_leading xs)
  | inr e ↦ rw e tt
]

-- at most 10 digits write a number below ten thousand million
pub value_bound : (xs : List ℕ) → length (leading_digits xs) ≤ 10 → value_of (leading_digits xs) < 10 ^ 10
unfolding value_of
value_bound xs short =
    let below = number_lt 10 (map (λ b. b - 48) (leading_digits xs)) (under_leading xs) in
    let most : 10 ^ length (leading_digits xs) ≤ 10 ^ 10 = pow-le-pow_right (zero-lt-suc 9) short in
    let k = rw length-map at below in
    omega arith

-- digits that are read from the left: the number so far, and the number of all
module _ (digits : List ℕ) (i n : ℕ) (so_far : number_from_digits_after 10 n (map (λ b. b - 48) (drop i digits)) ≡ value_of digits) where
  pub reads_small : length digits ≤ 10 → leading_digits digits ≡ digits → n < 10 ^ 10
  reads_small short all =
      let bound = value_bound digits (rw all short) in
      let same : value_of (leading_digits digits) ≡ value_of digits = ap value_of all in
      omega (arith, number_after_ge 10 n (map (λ b. b - 48) (drop i digits)) (omega arith))

-- The one number or the two that a text consists of, by the field that it begins with.
use Rattle.std.proofs.Common.{◌≡◌, ℕ, ◌<◌, ◌≤◌, List, [], ◌∷◌, length, Some, None, Option, sym, refl, ap, ◌∙◌, inl, inr, arith}
use Rattle.std.proofs.lemmas.Bool.{le-leb, lt-leb, cond-true, cond-false, cases_lt}
use Rattle.text.specs.Fields.{field}
use Rattle.console.specs.Requests.{if_last, last_within, one_number, with_second, both_within, two_numbers}

if_last_none : (rest : List ℕ) (n : ℕ) → length rest ≡ 0 → if_last rest n ≡ Some n
if_last_none [] n none = refl
if_last_none (b ∷ bs) n none = absurd (omega arith)

if_last_more : (rest : List ℕ) (n : ℕ) → 1 ≤ length rest → if_last rest n ≡ None
if_last_more [] n more = absurd (omega arith)
if_last_more (b ∷ bs) n more = refl

pub one_number_none : (most : ℕ) (text : List ℕ) → field text ≡ None → one_number most text ≡ None
unfolding one_number
one_number_none most text none = ap (last_within most) none

pub two_numbers_none : (most : ℕ) (text : List ℕ) → field text ≡ None → two_numbers most text ≡ None
unfolding two_numbers
two_numbers_none most text none = ap (both_within most) none

-- a text that begins with a field: its number and what follows it
module _ (most : ℕ) (text : List ℕ) (n : ℕ) (rest : List ℕ) (first : field text ≡ Some (n, rest)) where
  one_number_within : n ≤ most → one_number most text ≡ if_last rest n
  unfolding one_number
  one_number_within small = ap (last_within most) first ∙ cond-true _ _ _ (le-leb n most small)

  pub one_number_some : n ≤ most → length rest ≡ 0 → one_number most text ≡ Some n
  one_number_some small none = one_number_within small ∙ if_last_none rest n none

  pub one_number_big : most < n → one_number most text ≡ None
  unfolding one_number
  one_number_big big = ap (last_within most) first ∙ cond-false _ _ _ (lt-leb n most big)

  pub one_number_more : 1 ≤ length rest → one_number most text ≡ None
  one_number_more more = elim (cases_lt most n) [
    | inl big ↦ one_number_big big
    | inr small ↦ one_number_within small ∙ if_last_more rest n more
  ]

  pub two_numbers_big : most < n → two_numbers most text ≡ None
  unfolding two_numbers
  two_numbers_big big = ap (both_within most) first ∙ cond-false _ _ _ (lt-leb n most big)

  pub two_numbers_second : (o : Option ℕ) → n ≤ most → o ≡ one_number most rest → two_numbers most text ≡ with_second n o
  unfolding two_numbers
  two_numbers_second o small second =
      ap (both_within most) first ∙ cond-true _ _ _ (le-leb n most small) ∙ ap (with_second n) (sym second)

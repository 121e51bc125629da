-- What `field` answers, by the first byte of a line and by how many digits follow it.
use Rattle.std.proofs.Common.{◌≡◌, ℕ, ◌-◌, ◌<◌, ◌≤◌, false, ◌&&◌, leb, ◌⊎◌, List, [], ◌∷◌, length, get_or, take, drop, Some, None, sym, refl, ap, ◌∙◌, arith}
use Rattle.std.proofs.lemmas.List.{take_rest}
use Rattle.std.proofs.lemmas.Bool.{cond-true, cond-false, eq-eqb, ne_eqb, and_from, le-leb}
use Rattle.std.proofs.lemmas.Bool.Decides.{nat_tests}
use Rattle.text.specs.Fields.{field, number_first, leading_digits, value_of}

pub field_none : (line : List ℕ) → length line < 1 → field line ≡ None
unfolding field
field_none [] short = refl
field_none (b ∷ text) short = absurd (omega arith)

pub field_other : (line : List ℕ) → (get_or line 0 0 ≡ 32 → ⊥) → field line ≡ None
unfolding field
field_other [] other = refl
field_other (b ∷ text) other = cond-false _ _ _ (ne_eqb b 32 other)

-- after a space, as the code cuts it off
pub field_space : (line : List ℕ) → 1 ≤ length line → get_or line 0 0 ≡ 32 → field line ≡ number_first (take (length line - 1) (drop 1 line))
unfolding field
field_space [] long space = absurd (omega arith)
field_space (b ∷ text) long space = cond-true _ _ _ (eq-eqb b 32 space) ∙ ap number_first (sym (take_rest (b ∷ text) 1))

pub number_first_none : (text : List ℕ) → (length (leading_digits text) ≡ 0) ⊎ (10 < length (leading_digits text)) → number_first text ≡ None
unfolding number_first
number_first_none text many =
    let out : (leb 1 (length (leading_digits text)) && leb (length (leading_digits text)) 10) ≡ false = grind (arith, nat_tests) in
    cond-false _ _ _ out

pub number_first_some : (text : List ℕ) → 1 ≤ length (leading_digits text) → length (leading_digits text) ≤ 10 → number_first text ≡ Some (value_of (leading_digits text), drop (length (leading_digits text)) text)
unfolding number_first
number_first_some text some few = cond-true _ _ _ (and_from _ _ (le-leb _ _ some) (le-leb _ _ few))

-- the same, in the parts that the code has
pub number_first_is : (text : List ℕ) (count n : ℕ) (rest : List ℕ) → 1 ≤ count → count ≤ 10 → count ≡ length (leading_digits text) → n ≡ value_of (leading_digits text) → rest ≡ drop count text → Some (n, rest) ≡ number_first text
number_first_is text count n rest some few same number after =
    let whole : rest ≡ drop (length (leading_digits text)) text = after ∙ ap (λ k. drop k text) same in
    sym (number_first_some text (omega arith) (omega arith) ∙ rw (number, whole))

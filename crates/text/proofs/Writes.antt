-- Laws of writes into a buffer and of reads of a field, for the crates above.
use Rattle.std.proofs.Common.{◌≡◌, ℕ, ◌+◌, ◌^◌, ◌<◌, ◌≤◌, List, [], ◌∷◌, ◌++◌, length, take, drop, Some, None, Option, sym, refl, ap, ◌∙◌, inl, inr, append_assoc, add_assoc, zero-add, arith}
use borrow.Rule.Slice.PartMut.{put_mid}
use Rattle.std.proofs.lemmas.List.{length-append, length-take-le, length-drop, take_at, drop_at, drop-drop}
use Rattle.std.proofs.lemmas.Bool.{le-leb, lt-leb, eq-eqb, cond-true, cond-false, cases_lt, cases_eq}
use Rattle.text.specs.Fields.{field, number_first, leading_digits, value_of}
use Rattle.text.specs.Placed.{placed, end_of, after_write}
use Rattle.text.proofs.Digits.{value_bound}
use Rattle.text.proofs.Fields.{field_other, number_first_none, number_first_some}

-- an answer is not both
never : {X : Type 0} (o : Option X) (x : X) → o ≡ Some x → o ≡ None → ⊥
never o x some none = let z : ◌≡◌ {A = ℕ} 0 1 = cc in omega arith

-- a text with room is written, and the answer is where it ends
pub end_of_fits : (at : ℕ) (t buffer : List ℕ) → at + length t ≤ length buffer → end_of at t buffer ≡ Some (at + length t)
unfolding end_of
end_of_fits at t buffer fits = cond-true _ _ _ (le-leb _ _ fits)

pub after_write_fits : (at : ℕ) (t buffer : List ℕ) → at + length t ≤ length buffer → after_write at t buffer ≡ placed at t buffer
unfolding after_write
after_write_fits at t buffer fits = cond-true _ _ _ (le-leb _ _ fits)

-- a text without room is not
pub end_of_full : (at : ℕ) (t buffer : List ℕ) → length buffer < at + length t → end_of at t buffer ≡ None
unfolding end_of
end_of_full at t buffer full = cond-false _ _ _ (lt-leb _ _ full)

pub after_write_full : (at : ℕ) (t buffer : List ℕ) → length buffer < at + length t → after_write at t buffer ≡ buffer
unfolding after_write
after_write_full at t buffer full = cond-false _ _ _ (lt-leb _ _ full)

-- an answer says that the text had room, and where it ends
pub fits_from_end : (at : ℕ) (t buffer : List ℕ) (end : ℕ) → end_of at t buffer ≡ Some end → (at + length t ≤ length buffer) × (end ≡ at + length t)
fits_from_end at t buffer end e = elim (cases_lt (length buffer) (at + length t)) [
  | inl full ↦ absurd (never _ _ e (end_of_full at t buffer full))
  | inr fits ↦ (fits, cc (end_of_fits at t buffer fits))
]

-- a write keeps the buffer's length
pub length_placed : (at : ℕ) (t buffer : List ℕ) → at + length t ≤ length buffer → length (placed at t buffer) ≡ length buffer
unfolding placed
length_placed at t buffer fits =
    let low : at ≤ length buffer = omega arith in
    simp (length-append, length-drop, length-take-le at buffer low) (omega arith)

pub length_after_write : (at : ℕ) (t buffer : List ℕ) → length (after_write at t buffer) ≡ length buffer
length_after_write at t buffer = elim (cases_lt (length buffer) (at + length t)) [
  | inl full ↦ ap length (after_write_full at t buffer full)
  | inr fits ↦ ap length (after_write_fits at t buffer fits) ∙ length_placed at t buffer fits
]

-- what stands up to the end of a write
pub take_placed : (at : ℕ) (t buffer : List ℕ) → at ≤ length buffer → take (at + length t) (placed at t buffer) ≡ take at buffer ++ t
unfolding placed
take_placed at t buffer low =
    let front : length (take at buffer ++ t) ≡ at + length t = simp (length-append, length-take-le at buffer low) in
    rw (← append_assoc (take at buffer) t (drop (at + length t) buffer)) (take_at (take at buffer ++ t) (drop (at + length t) buffer) _ front)

-- a write at the start
pub placed_start : (t buffer : List ℕ) → placed 0 t buffer ≡ t ++ drop (length t) buffer
unfolding placed
placed_start t buffer = rw (zero-add (length t))

-- a write on from where another ended is one write of both texts
pub placed_placed : (at : ℕ) (a b buffer : List ℕ) → at + length a + length b ≤ length buffer → placed (at + length a) b (placed at a buffer) ≡ placed at (a ++ b) buffer
unfolding placed
placed_placed at a b buffer fits =
    let low : at ≤ length buffer = omega arith in
    let front : length (take at buffer ++ a) ≡ at + length a = simp (length-append, length-take-le at buffer low) in
    let whole = sym (append_assoc (take at buffer) a (drop (at + length a) buffer)) in
    let head = ap (take (at + length a)) whole ∙ take_at (take at buffer ++ a) (drop (at + length a) buffer) _ front in
    let tail = ap (drop (at + length a)) whole ∙ drop_at (take at buffer ++ a) (drop (at + length a) buffer) _ front in
    let rest =
    sym (drop-drop (length b) (at + length a) (take at buffer ++ (a ++ drop (at + length a) buffer)))
    ∙ ap (drop (length b)) tail
    ∙ drop-drop (length b) (at + length a) buffer in
    rw (head, rest) (simp (length-append, append_assoc, add_assoc))

-- what a copy into a part of the buffer leaves
pub putMid_placed : (at size : ℕ) (ys t buffer : List ℕ) → size ≡ length t → ys ≡ t → put_mid at size buffer ys ≡ placed at t buffer
unfolding placed
putMid_placed at size ys t buffer long same = rw (long, same, drop-drop (length t) at buffer)

number_first_parts : (text : List ℕ) (n : ℕ) (rest : List ℕ) → number_first text ≡ Some (n, rest) → (n < 10 ^ 10) × (length rest ≤ length text)
number_first_parts text n rest e = elim (cases_lt 10 (length (leading_digits text))) [
  | inl many ↦ absurd (never _ _ e (number_first_none text (inr many)))
  | inr few ↦ elim (cases_lt 0 (length (leading_digits text))) [
    | inl some ↦
        let same : ◌≡◌ {A = ℕ × List ℕ} (n, rest) (value_of (leading_digits text), drop (length (leading_digits text)) text) =
        cc (number_first_some text some few) in
        let number = ap (λ p. p.0) same in
        let after = ap (λ p. length p.1) same ∙ length-drop (length (leading_digits text)) text in
        (omega (arith, value_bound text few), omega arith)
    | inr none ↦ absurd (never _ _ e (number_first_none text (inl (omega arith))))
  ]
]

field_parts : (bs : List ℕ) (n : ℕ) (rest : List ℕ) → field bs ≡ Some (n, rest) → (n < 10 ^ 10) × (length rest < length bs)
unfolding field
field_parts [] n rest e = absurd (never _ _ e refl)
field_parts (b ∷ text) n rest e = elim (cases_eq b 32) [
  | inl space ↦
      let parts = number_first_parts text n rest (sym (cond-true _ _ _ (eq-eqb b 32 space)) ∙ e) in
      (parts.0, omega (arith, parts.1))
  | inr other ↦ absurd (never _ _ e (field_other (b ∷ text) other))
]

-- what follows a field is shorter than the line, and the field's number is below ten thousand million
pub field_rest_shorter : (bs : List ℕ) (n : ℕ) (rest : List ℕ) → field bs ≡ Some (n, rest) → length rest < length bs
field_rest_shorter bs n rest e = (field_parts bs n rest e).1

pub field_number_small : (bs : List ℕ) (n : ℕ) (rest : List ℕ) → field bs ≡ Some (n, rest) → n < 10 ^ 10
field_number_small bs n rest e = (field_parts bs n rest e).0

-- What a write at the buffer's start answers, with a refusal where it has no room, is what printing a value answers.
use Rattle.std.proofs.Common.{◌≡◌, ℕ, List, length, Option, Result, ap, ◌∙◌, inl, inr, zero-add, arith}
use Rattle.std.proofs.lemmas.Bool.{cases_lt, lt-ltb, le-ltb}
use Rattle.std.specs.Option.{ok_or}
use Rattle.refusals.specs.declared.Refusal.{Refusal}
use Rattle.refusals.specs.declared.Refusal.TheVariants.{BufferTooShort}
use Rattle.algebra.specs.Prints.{printed_end, after_print}
use Rattle.text.specs.Placed.{end_of, after_write}
use Rattle.text.proofs.Writes.{end_of_fits, end_of_full}

end_or_refusal : (text buffer : List ℕ) → ok_or (end_of 0 text buffer) BufferTooShort ≡ printed_end text buffer
end_or_refusal text buffer = elim (cases_lt (length buffer) (length text)) [
  | inl full ↦ rw (end_of_full 0 text buffer (omega arith), lt-ltb (length buffer) (length text) full)
  | inr fits ↦ rw (end_of_fits 0 text buffer (omega arith), le-ltb (length buffer) (length text) fits, zero-add (length text))
]

-- the text that was written is the print
module _ {text print : List ℕ} (same : text ≡ print) (buffer : List ℕ) where
  pub printed_answer : {end : Option ℕ} {r : Result ℕ Refusal} → end ≡ end_of 0 text buffer → r ≡ ok_or end BufferTooShort → r ≡ printed_end print buffer
  printed_answer wrote answer = answer ∙ ap (λ o. ok_or o BufferTooShort) wrote ∙ end_or_refusal text buffer ∙ ap (λ t. printed_end t buffer) same

  pub printed_buffer : {after : List ℕ} → after ≡ after_write 0 text buffer → after ≡ after_print print buffer
  printed_buffer wrote = wrote ∙ ap (λ t. after_write 0 t buffer) same

-- What printing a value answers, and what it leaves in the buffer.
use Rattle.std.specs.Prelude.{ℕ, List, [], ◌∷◌, length, Result, nat_lt}
use Rattle.refusals.specs.Refusals.{Check, answered, first_due}
use Rattle.refusals.specs.declared.Refusal.{Refusal}
use Rattle.refusals.specs.declared.Refusal.TheVariants.{BufferTooShort}
use Rattle.text.specs.Placed.{after_write}

-- the text is longer than the buffer
abbrev pub no_room : List ℕ → List ℕ → Check
no_room text buffer = (nat_lt (length buffer) (length text), BufferTooShort)

-- the length of the print, or the refusal where it has no room
abbrev pub printed_end : List ℕ → List ℕ → Result ℕ Refusal
printed_end text buffer = answered (first_due (no_room text buffer ∷ [])) (length text)

-- the print at the buffer's start and the rest as it was; where it has no room, all as it was
abbrev pub after_print : List ℕ → List ℕ → List ℕ
after_print text buffer = after_write 0 text buffer

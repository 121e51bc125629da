-- What a buffer holds once a text is written into it.
use Rattle.std.specs.Prelude.{ℕ, ◌+◌, Bool, cond, List, ◌++◌, length, take, drop, Some, None, Option, nat_le}

-- the text has room in the buffer from place `at` on
abbrev pub room : ℕ → List ℕ → List ℕ → Bool
room at text buffer = nat_le (at + length text) (length buffer)

-- the buffer with the text from place `at` on, and all else as it was
unfoldable pub placed : ℕ → List ℕ → List ℕ → List ℕ
placed at text buffer = take at buffer ++ (text ++ drop (at + length text) buffer)

-- the answer of a write: where the text ends, or nothing where it has no room
unfoldable pub end_of : ℕ → List ℕ → List ℕ → Option ℕ
end_of at text buffer = cond (room at text buffer) (Some (at + length text)) None

-- the buffer after a write: a text without room is not written
unfoldable pub after_write : ℕ → List ℕ → List ℕ → List ℕ
after_write at text buffer = cond (room at text buffer) (placed at text buffer) buffer

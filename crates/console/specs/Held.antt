-- What a line buffer holds, and what it answers.
use Rattle.std.specs.Prelude.{◌≡◌, ℕ, cond, List, [], ◌∷◌, ◌++◌, take, Some, None, Option, MatchOption, ◌==◌, ◌≢◌}
use Rattle.console.specs.Splits.{Splits}
use Rattle.console.specs.declared.lines.LineBuffer.{LineBuffer}

-- the bytes that are kept
abbrev pub held : LineBuffer → List ℕ
held buffer = take buffer.len buffer.bytes

-- they are those of the line, up to 41 of them
abbrev pub Keeps : List ℕ → LineBuffer → Type 0
Keeps line buffer = held buffer ≡ take 41 line

-- a newline gives the line up and begins an empty one, and any other byte goes to the line
abbrev pub Accepts : ℕ → Option LineBuffer → LineBuffer → LineBuffer → Type 0
Accepts byte r before after =
    MatchOption r ((byte ≢ 10) × (held after ≡ take 41 (held before ++ byte ∷ []))) (λ line. (byte ≡ 10) × (line ≡ before) × (held after ≡ []))

-- the same of an input that falls into full lines and a part: it goes on by this byte
abbrev pub GoesOn : List ℕ → List (List ℕ) → List ℕ → ℕ → Option LineBuffer → LineBuffer → Type 0
GoesOn input full part byte r after =
    MatchOption r
    (Splits (input ++ byte ∷ []) full (part ++ byte ∷ []) × Keeps (part ++ byte ∷ []) after)
    (λ line. Splits (input ++ byte ∷ []) (full ++ part ∷ []) [] × Keeps part line × Keeps [] after)

-- what is left when the input ends, if it is anything
abbrev pub left_over : LineBuffer → Option LineBuffer
left_over buffer = cond (buffer.len == 0) None (Some buffer)

-- at the end of the input, bytes after its last newline are a line
abbrev pub Ends : List ℕ → Option LineBuffer → Type 0
Ends part r = MatchOption r (part ≡ []) (λ line. (part ≢ []) × Keeps part line)

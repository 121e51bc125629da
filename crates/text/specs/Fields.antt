-- Number fields of a line: one space, and then a number of 1 to 10 digits.
use Rattle.std.specs.Prelude.{ℕ, ◌-◌, Bool, cond, ◌&&◌, List, [], ◌∷◌, map, length, drop, Some, None, Option, ◌==◌, nat_le}
use Rattle.std.specs.Int.Digits.{number_from_digits}

-- '0' to '9'
abbrev pub is_digit : ℕ → Bool
is_digit b = nat_le 48 b && nat_le b 57

-- the digits that a text begins with
unfoldable pub leading_digits : List ℕ → List ℕ
leading_digits [] = []
leading_digits (b ∷ bs) = cond (is_digit b) (b ∷ leading_digits bs) []

-- the number that digits write, in base ten
unfoldable pub value_of : List ℕ → ℕ
value_of digits = number_from_digits 10 (map (λ b. b - 48) digits)

-- what a text says after its space: the number and what follows it
unfoldable pub number_first : List ℕ → Option (ℕ × List ℕ)
number_first text =
    let digits = leading_digits text in
    cond (nat_le 1 (length digits) && nat_le (length digits) 10) (Some (value_of digits, drop (length digits) text)) None

-- the field that a text begins with, and what follows it
unfoldable pub field : List ℕ → Option (ℕ × List ℕ)
field [] = None
field (b ∷ text) = cond (b == 32) (number_first text) None

-- Which call a line of the console makes.
use Rattle.std.specs.Prelude.{ℕ, cond, List, [], ◌∷◌, length, Some, None, Option, ◌==◌, nat_le}
use Rattle.network.specs.declared.Link.{Link as Ends}
use Rattle.text.specs.Fields.{field}
use Rattle.console.specs.declared.line.Request.{Request}
use Rattle.console.specs.declared.line.Request.TheVariants.{AddVoter, AddModule, Link, Cut, CountPatterns, LongestRepair}

-- bytes in a line, without its newline
abbrev pub longest_line : ℕ
longest_line = 40

abbrev pub largest_code : ℕ
largest_code = 65535

-- any other number
abbrev pub largest_number : ℕ
largest_number = 4294967295

-- the number of a field, if no bytes follow the field
abbrev pub if_last : List ℕ → ℕ → Option ℕ
if_last [] n = Some n
if_last (b ∷ bs) n = None

-- a number within its limit, with nothing after it
abbrev pub last_within : ℕ → Option (ℕ × List ℕ) → Option ℕ
last_within most None = None
last_within most (Some p) = cond (nat_le p.0 most) (if_last p.1 p.0) None

-- the one number that a text consists of
unfoldable pub one_number : ℕ → List ℕ → Option ℕ
one_number most text = last_within most (field text)

-- a number, and the second that follows it
abbrev pub with_second : ℕ → Option ℕ → Option (ℕ × ℕ)
with_second a None = None
with_second a (Some b) = Some (a, b)

-- a first number within its limit, and the one number that the rest consists of
abbrev pub both_within : ℕ → Option (ℕ × List ℕ) → Option (ℕ × ℕ)
both_within most None = None
both_within most (Some p) = cond (nat_le p.0 most) (with_second p.0 (one_number most p.1)) None

-- the two numbers that a text consists of
unfoldable pub two_numbers : ℕ → List ℕ → Option (ℕ × ℕ)
two_numbers most text = both_within most (field text)

-- the call that takes no number, if nothing follows its letter
abbrev pub given_nothing : Request → List ℕ → Option Request
given_nothing call [] = Some call
given_nothing call (b ∷ bs) = None

-- the call that takes one number, if there is one
abbrev pub given_number : (ℕ → Request) → Option ℕ → Option Request
given_number make None = None
given_number make (Some n) = Some (make n)

-- the call that takes two numbers, if there are two
abbrev pub given_pair : (ℕ → ℕ → Request) → Option (ℕ × ℕ) → Option Request
given_pair make None = None
given_pair make (Some p) = Some (make p.0 p.1)

-- the link with these ends
abbrev pub ends : ℕ × ℕ → Ends
ends p = record { voter = p.0; «module» = p.1 }

-- the call that a letter names, with the numbers that follow it
unfoldable pub named_call : ℕ → List ℕ → Option Request
named_call letter rest =
    -- V
    cond (letter == 86) (given_number AddVoter (one_number largest_code rest))
    -- M
    (cond (letter == 77) (given_number AddModule (one_number largest_code rest))
    -- L
    (cond (letter == 76) (given_pair (λ v m. Link (ends (v, m))) (two_numbers largest_number rest))
    -- X
    (cond (letter == 88) (given_pair (λ v m. Cut (ends (v, m))) (two_numbers largest_number rest))
    -- C
    (cond (letter == 67) (given_nothing CountPatterns rest)
    -- H
    (cond (letter == 72) (given_number LongestRepair (one_number largest_number rest)) None)))))

-- the call that a line makes, if any
unfoldable pub request : List ℕ → Option Request
request [] = None
request (letter ∷ rest) = cond (nat_le (length (letter ∷ rest)) longest_line) (named_call letter rest) None

-- The call that each letter names, and the call of a line by its length and its first byte.
use Rattle.std.proofs.Common.{◌≡◌, ℕ, ◌-◌, ◌<◌, ◌≤◌, List, [], ◌∷◌, length, get_or, take, drop, Some, None, Option, sym, refl, ap, ◌∙◌, arith}
use Rattle.std.specs.Option.{option_map}
use Rattle.std.proofs.lemmas.List.{take_rest}
use Rattle.std.proofs.lemmas.Bool.{le-leb, lt-leb, ne_eqb, cond-true, cond-false}
use Rattle.console.specs.Requests.{ends, largest_code, largest_number, one_number, two_numbers, given_number, given_pair, named_call, request}
use Rattle.console.specs.declared.line.Request.{Request}
use Rattle.network.specs.declared.Link.{Link as Ends}
use Rattle.console.specs.declared.line.Request.TheVariants.{AddVoter, AddModule, Link, Cut, CountPatterns, LongestRepair}

-- the numbers that a letter takes, up to the largest that the code allows
module _ (letter : ℕ) (rest : List ℕ) (most : ℕ) where
  pub names_v : letter ≡ 86 → most ≡ largest_code → named_call letter rest ≡ given_number AddVoter (one_number most rest)
  unfolding named_call
  names_v this limit = rw (this, limit) refl

  pub names_m : letter ≡ 77 → most ≡ largest_code → named_call letter rest ≡ given_number AddModule (one_number most rest)
  unfolding named_call
  names_m this limit = rw (this, limit) refl

  pub names_h : letter ≡ 72 → most ≡ largest_number → named_call letter rest ≡ given_number LongestRepair (one_number most rest)
  unfolding named_call
  names_h this limit = rw (this, limit) refl

-- L and X take a link
module _ (letter : ℕ) (rest : List ℕ) where
  by_ends : (make : Ends → Request) (o : Option (ℕ × ℕ)) → given_pair (λ v m. make (ends (v, m))) o ≡ option_map make (option_map ends o)
  by_ends make None = refl
  by_ends make (Some p) = refl

  pub names_l : letter ≡ 76 → named_call letter rest ≡ option_map Link (option_map ends (two_numbers largest_number rest))
  unfolding named_call
  names_l this = rw this (by_ends Link (two_numbers largest_number rest))

  pub names_x : letter ≡ 88 → named_call letter rest ≡ option_map Cut (option_map ends (two_numbers largest_number rest))
  unfolding named_call
  names_x this = rw this (by_ends Cut (two_numbers largest_number rest))

-- C takes no number
module _ (letter : ℕ) where
  pub names_c : (rest : List ℕ) → letter ≡ 67 → length rest ≡ 0 → named_call letter rest ≡ Some CountPatterns
  unfolding named_call
  names_c [] this none = rw this refl
  names_c (b ∷ bs) this none = absurd (omega arith)

  pub names_c_more : (rest : List ℕ) → letter ≡ 67 → 1 ≤ length rest → named_call letter rest ≡ None
  unfolding named_call
  names_c_more [] this more = absurd (omega arith)
  names_c_more (b ∷ bs) this more = rw this refl

-- no other byte names a call
pub names_none : (letter : ℕ) (rest : List ℕ) → (letter ≡ 86 → ⊥) → (letter ≡ 77 → ⊥) → (letter ≡ 76 → ⊥) → (letter ≡ 88 → ⊥) → (letter ≡ 67 → ⊥) → (letter ≡ 72 → ⊥) → named_call letter rest ≡ None
unfolding named_call
names_none letter rest not_v not_m not_l not_x not_c not_h =
    rw (ne_eqb letter 86 not_v, ne_eqb letter 77 not_m, ne_eqb letter 76 not_l, ne_eqb letter 88 not_x, ne_eqb letter 67 not_c, ne_eqb letter 72 not_h) refl

pub request_none : (line : List ℕ) → length line < 1 → request line ≡ None
unfolding request
request_none [] short = refl
request_none (b ∷ bs) short = absurd (omega arith)

pub request_long : (line : List ℕ) → 40 < length line → request line ≡ None
unfolding request
request_long [] long = refl
request_long (b ∷ bs) long = cond-false _ _ _ (lt-leb _ _ long)

-- the letter and what follows it, as the code cuts it off
pub request_named : (line : List ℕ) → 1 ≤ length line → length line ≤ 40 → request line ≡ named_call (get_or line 0 0) (take (length line - 1) (drop 1 line))
unfolding request
request_named [] some short = absurd (omega arith)
request_named (b ∷ bs) some short =
    cond-true _ _ _ (le-leb _ _ short) ∙ ap (named_call b) (sym (take_rest (b ∷ bs) 1))

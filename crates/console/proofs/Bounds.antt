-- The numbers of a call are within their limits, and so is the line that makes it.
use Rattle.std.proofs.Common.{◌≡◌, ℕ, ◌≤◌, Bool, true, false, cond, eqb, leb, ◌⊎◌, List, [], ◌∷◌, length, Some, None, Option, sym, refl, ap, subst, inl, inr, arith}
use Rattle.std.proofs.lemmas.Bool.{cases_lt}
use Rattle.text.specs.Fields.{field}
use Rattle.console.specs.Requests.{ends, largest_code, largest_number, longest_line, one_number, two_numbers, given_nothing, given_number, given_pair, named_call, request}
use Rattle.console.specs.declared.line.Request.{Request}
use Rattle.console.specs.declared.line.Request.TheVariants.{AddVoter, AddModule, Link, Cut, CountPatterns, LongestRepair}
use Rattle.console.proofs.Calls.{request_none, request_long}
use Rattle.console.proofs.Numbers.{one_number_none, one_number_some, one_number_big, one_number_more, two_numbers_none, two_numbers_big, two_numbers_second}

-- an answer is not both
never : {X : Type 0} {x : X} (o : Option X) → o ≡ Some x → o ≡ None → ⊥
never o some none = let z : ◌≡◌ {A = ℕ} 0 1 = cc in omega arith

cases_option : {X : Type 0} (o : Option X) → (o ≡ None) ⊎ ((x : X) × (o ≡ Some x))
cases_option None = inl refl
cases_option (Some x) = inr (x, refl)

pub one_number_most : (most : ℕ) (text : List ℕ) (m : ℕ) → one_number most text ≡ Some m → m ≤ most
one_number_most most text m answer = elim (cases_option (field text)) [
  | inl none ↦ absurd (never _ answer (one_number_none most text none))
  | inr some ↦ at_field some.0.0 some.0.1 some.1
]
  where
    at_field : (n : ℕ) (rest : List ℕ) → field text ≡ Some (n, rest) → m ≤ most
    at_field n rest first = elim (cases_lt most n) [
      | inl big ↦ absurd (never _ answer (one_number_big most text n rest first big))
      | inr small ↦ elim (cases_lt 0 (length rest)) [
        | inl more ↦ absurd (never _ answer (one_number_more most text n rest first more))
        | inr none ↦ let same : m ≡ n = cc (one_number_some most text n rest first small (omega arith)) in omega arith
      ]
    ]

pub two_numbers_most : (most : ℕ) (text : List ℕ) (p : ℕ × ℕ) → two_numbers most text ≡ Some p → (p.0 ≤ most) × (p.1 ≤ most)
two_numbers_most most text p answer = elim (cases_option (field text)) [
  | inl none ↦ absurd (never _ answer (two_numbers_none most text none))
  | inr some ↦ at_field some.0.0 some.0.1 some.1
]
  where
    at_field : (n : ℕ) (rest : List ℕ) → field text ≡ Some (n, rest) → (p.0 ≤ most) × (p.1 ≤ most)
    at_field n rest first = elim (cases_lt most n) [
      | inl big ↦ absurd (never _ answer (two_numbers_big most text n rest first big))
      | inr small ↦ elim (cases_option (one_number most rest)) [
        | inl none ↦ absurd (never _ answer (two_numbers_second most text n rest first None small (sym none)))
        | inr some ↦
            let same : ◌≡◌ {A = ℕ × ℕ} p (n, some.0) = cc (two_numbers_second most text n rest first (Some some.0) small (sym some.1)) in
            let second = one_number_most most rest some.0 some.1 in
            (omega (arith, ap (λ q. q.0) same), omega (arith, ap (λ q. q.1) same))
      ]
    ]

-- each number of the call is one that a line may have
abbrev pub Within : Request → Type 0
Within (AddVoter code) = code ≤ largest_code
Within (AddModule code) = code ≤ largest_code
Within (Link l) = (l.voter ≤ largest_number) × (l.«module» ≤ largest_number)
Within (Cut l) = (l.voter ≤ largest_number) × (l.«module» ≤ largest_number)
Within CountPatterns = Unit {0}
Within (LongestRepair hours) = hours ≤ largest_number

module _ (call : Request) where
  nothing_within : (alone : Request) (rest : List ℕ) → Within alone → given_nothing alone rest ≡ Some call → Within call
  nothing_within alone [] bound made = let same : alone ≡ call = cc in subst Within same bound
  nothing_within alone (b ∷ bs) bound made = absurd (never _ made refl)

  number_within : (make : ℕ → Request) (o : Option ℕ) → ((n : ℕ) → o ≡ Some n → Within (make n)) → given_number make o ≡ Some call → Within call
  number_within make None bound made = absurd (never _ made refl)
  number_within make (Some n) bound made = let same : make n ≡ call = cc in subst Within same (bound n refl)

  pair_within : (make : ℕ → ℕ → Request) (o : Option (ℕ × ℕ)) → ((p : ℕ × ℕ) → o ≡ Some p → Within (make p.0 p.1)) → given_pair make o ≡ Some call → Within call
  pair_within make None bound made = absurd (never _ made refl)
  pair_within make (Some p) bound made = let same : make p.0 p.1 ≡ call = cc in subst Within same (bound p refl)

  either_within : (this : Bool) (o others : Option Request) → (o ≡ Some call → Within call) → (others ≡ Some call → Within call) → cond this o others ≡ Some call → Within call
  either_within true o others here there made = here made
  either_within false o others here there made = there made

  pub named_call_within : (letter : ℕ) (rest : List ℕ) → named_call letter rest ≡ Some call → Within call
  unfolding named_call
  named_call_within letter rest =
      either_within (eqb letter 86) _ _ (number_within AddVoter _ (one_number_most largest_code rest))
      (either_within (eqb letter 77) _ _ (number_within AddModule _ (one_number_most largest_code rest))
      (either_within (eqb letter 76) _ _ (pair_within (λ v m. Link (ends (v, m))) _ (two_numbers_most largest_number rest))
      (either_within (eqb letter 88) _ _ (pair_within (λ v m. Cut (ends (v, m))) _ (two_numbers_most largest_number rest))
      (either_within (eqb letter 67) _ _ (nothing_within CountPatterns rest tt)
      (either_within (eqb letter 72) _ _ (number_within LongestRepair _ (one_number_most largest_number rest)) (λ none. absurd (never _ none refl)))))))

  pub request_within : (line : List ℕ) → request line ≡ Some call → Within call
  unfolding request
  request_within [] made = absurd (never _ made refl)
  request_within (letter ∷ rest) made = either_within (leb (length (letter ∷ rest)) longest_line) _ _ (named_call_within letter rest) (λ none. absurd (never _ none refl)) made

-- a line that makes a call has 1 to 40 bytes
pub request_length : (line : List ℕ) (call : Request) → request line ≡ Some call → (1 ≤ length line) × (length line ≤ longest_line)
request_length line call made = elim (cases_lt 40 (length line)) [
  | inl long ↦ absurd (never _ made (request_long line long))
  | inr short ↦ elim (cases_lt (length line) 1) [
    | inl none ↦ absurd (never _ made (request_none line none))
    | inr some ↦ (some, short)
  ]
]

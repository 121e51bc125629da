-- The marks that sources leave at a place say what counts of the faults there: none, faults at one position, or at more.
use Rattle.std.proofs.Common.{◌≡◌, ℕ, Bool, true, false, cond, ◌&&◌, ◌||◌, List, [], ◌∷◌, refl, ap, ◌∙◌, arith}
use Rattle.std.proofs.lemmas.Bool.Decides.{nat_tests}
use Rattle.sets.specs.Lists.{any}
use Rattle.network.specs.Patterns.{Position, A, B, C, State, faulty_at}
use Rattle.method.proofs.Ways.{Mark, none, one, clash, join, left_at, mark_of}

-- the mark of faults at A, at B and at C
abbrev pub summary : Bool → Bool → Bool → Mark
summary true true d = clash
summary true false true = clash
summary true false false = one A
summary false true true = clash
summary false true false = one B
summary false false true = one C
summary false false false = none

joins : (b c d reached : Bool) (x : State) → join (summary b c d) (cond reached (mark_of x) none) ≡ summary (b || (reached && faulty_at A x)) (c || (reached && faulty_at B x)) (d || (reached && faulty_at C x))
joins b c d reached x = grind (arith, nat_tests)

or_assoc : (a b c : Bool) → ((a || b) || c) ≡ (a || (b || c))
or_assoc true b c = refl
or_assoc false b c = refl

or_false : (b : Bool) → b ≡ (b || false)
or_false true = refl
or_false false = refl

module _ (row : ℕ → ℕ → Bool) where
  -- the marks after sources, each in its state, have left theirs
  abbrev pub gathered : (ℕ → Mark) → List (ℕ × State) → ℕ → Mark
  gathered marks [] r = marks r
  gathered marks (e ∷ es) r = gathered (λ q. join (marks q) (left_at row e.0 e.1 q)) es r

  -- a source that reaches the place is faulty at p
  abbrev pub reached_at : ℕ → Position → List (ℕ × State) → Bool
  reached_at r p es = any (λ e. row e.0 r && faulty_at p e.1) es

  pub gathered_summary : (marks : ℕ → Mark) (es : List (ℕ × State)) (r : ℕ) (b c d : Bool) → marks r ≡ summary b c d
      → gathered marks es r ≡ summary (b || reached_at r A es) (c || reached_at r B es) (d || reached_at r C es)
  gathered_summary marks [] r b c d h = h ∙ (λ i. summary (or_false b i) (or_false c i) (or_false d i))
  gathered_summary marks (e ∷ es) r b c d h =
      let here : Position → Bool = λ p. row e.0 r && faulty_at p e.1 in
      gathered_summary (λ q. join (marks q) (left_at row e.0 e.1 q)) es r (b || here A) (c || here B) (d || here C)
      (ap (λ m. join m (left_at row e.0 e.1 r)) h ∙ joins b c d (row e.0 r) e.1)
      ∙ (λ i. summary (or_assoc b (here A) (reached_at r A es) i) (or_assoc c (here B) (reached_at r B es) i) (or_assoc d (here C) (reached_at r C es) i))

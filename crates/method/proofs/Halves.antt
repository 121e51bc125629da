-- A pattern is the voters' states and then the modules'; whether it is tolerated, by the marks that the voters leave.
use Rattle.std.proofs.Common.{◌≡◌, ℕ, zero, suc, ◌+◌, ◌<◌, Bool, not, ◌&&◌, ◌||◌, List, [], ◌∷◌, ◌++◌, map, length, get_or, sym, refl, ap, ◌∙◌, subst, arith}
use Rattle.std.specs.List.{range_with_len, zip}
use Rattle.std.proofs.lemmas.List.{get_or-append-add, get_or_append_left}
use Rattle.sets.specs.Lists.{all, any}
use Rattle.sets.proofs.Kept.{any_map}
use Rattle.network.specs.Networks.{Network, linked, module_count, voter_count}
use Rattle.network.specs.Patterns.{Pattern, Position, A, B, C, State, whole, bad, faulty_at, module_state, tolerated, voter_state}
use Rattle.network.proofs.Lists.{all_map}
use Rattle.method.proofs.Marks.{reached_at}

-- each number with its value is each number with the element of a list, if those are the values
beside : {X : Type 0} (f : ℕ → X) (xs : List X) (d : X) (i : ℕ) → ((j : ℕ) → j < length xs → f (i + j) ≡ get_or xs j d) → map (λ j. (j, f j)) (range_with_len i (length xs)) ≡ zip (range_with_len i (length xs)) xs
beside f [] d i h = refl
beside f (x ∷ xs) d i h =
    let first : f i ≡ x = ap f (omega arith) ∙ h 0 (omega arith) in
    let rest = beside f xs d (i + 1) (λ j lt. ap f (omega arith) ∙ h (suc j) (omega arith)) in
    λ t. (i, first t) ∷ rest t

pub map_shifted : {X : Type 0} (f : ℕ → X) (a i n : ℕ) → map f (range_with_len (a + i) n) ≡ map (λ j. f (a + j)) (range_with_len i n)
map_shifted f a i zero = refl
map_shifted f a i (suc n) =
    let on : a + i + 1 ≡ a + (i + 1) = omega arith in
    ap (λ l. f (a + i) ∷ l) (ap (λ x. map f (range_with_len x n)) on ∙ map_shifted f a (i + 1) n)

-- two of three
abbrev pub two : Bool → Bool → Bool → Bool
two b c d = (b && c) || ((b && d) || (c && d))

module _ (n : Network) where
  -- a module trio in state x, the voter trios being in the states given, has no two bad positions
  abbrev pub sound : List (ℕ × State) → ℕ → State → Bool
  sound es m x =
      not (two (faulty_at A x || reached_at (linked n) m A es) (faulty_at B x || reached_at (linked n) m B es) (faulty_at C x || reached_at (linked n) m C es))

  module _ (vs ms : Pattern) (all_voters : length vs ≡ voter_count n) (all_modules : length ms ≡ module_count n) where
    reached : (m : ℕ) (p : Position) → any (λ v. linked n v m && faulty_at p (voter_state (vs ++ ms) v)) (range_with_len 0 (voter_count n)) ≡ reached_at (linked n) m p (zip (range_with_len 0 (voter_count n)) vs)
    reached m p =
        let P : ℕ → Type 0 = λ c. map (λ j. (j, voter_state (vs ++ ms) j)) (range_with_len 0 c) ≡ zip (range_with_len 0 c) vs in
        let pairs = subst P all_voters (beside (voter_state (vs ++ ms)) vs whole 0 (λ j lt. ap (voter_state (vs ++ ms)) (omega arith) ∙ get_or_append_left vs ms whole j lt)) in
        let test : ℕ × State → Bool = λ e. linked n e.0 m && faulty_at p e.1 in
        sym (any_map test (λ j. (j, voter_state (vs ++ ms) j)) (range_with_len 0 (voter_count n))) ∙ ap (any test) pairs

    pub tolerated_halves : tolerated n (vs ++ ms) ≡ all (λ e. sound (zip (range_with_len 0 (voter_count n)) vs) e.0 e.1) (zip (range_with_len 0 (module_count n)) ms)
    unfolding tolerated
    tolerated_halves =
        let es = zip (range_with_len 0 (voter_count n)) vs in
        let own : (m : ℕ) → module_state n (vs ++ ms) m ≡ get_or ms m whole =
        λ m. ap (λ c. get_or (vs ++ ms) (c + m) whole) (sym all_voters) ∙ get_or-append-add vs ms m whole in
        let P : ℕ → Type 0 = λ c. map (λ j. (j, module_state n (vs ++ ms) j)) (range_with_len 0 c) ≡ zip (range_with_len 0 c) ms in
        let pairs = subst P all_modules (beside (module_state n (vs ++ ms)) ms whole 0 (λ j lt. ap (module_state n (vs ++ ms)) (omega arith) ∙ own j)) in
        let test : ℕ × State → Bool = λ e. sound es e.0 e.1 in
        let worst : (m : ℕ) (p : Position) → bad n (vs ++ ms) m p ≡ (faulty_at p (module_state n (vs ++ ms) m) || reached_at (linked n) m p es) =
        λ m p. ap (λ b. faulty_at p (module_state n (vs ++ ms) m) || b) (reached m p) in
        (λ t. all (λ m. not (two (worst m A t) (worst m B t) (worst m C t))) (range_with_len 0 (module_count n)))
        ∙ sym (all_map test (λ j. (j, module_state n (vs ++ ms) j)) (range_with_len 0 (module_count n)))
        ∙ ap (all test) pairs

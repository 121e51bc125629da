-- Picking the voters of a combination one after the other, by the digits of its number.
use Rattle.std.proofs.Common.{◌≡◌, ℕ, zero, suc, ◌+◌, ◌/◌, ◌%◌, ◌<◌, ◌≤◌, Bool, true, false, cond, ◌&&◌, ◌||◌, eqb, ltb, List, [], ◌∷◌, ◌++◌, filter, sym, refl, ap, ◌∙◌, subst, ⊎_elim, append_assoc, append-nil, arith}
use Rattle.std.specs.List.{range_with_len}
use Rattle.std.proofs.lemmas.Bool.{cases_Bool, eq-eqb, lt-ltb, ne_eqb, or_cases, or_left, or_right}
use Rattle.std.proofs.lemmas.Bool.Decides.{nat_tests}
use Rattle.method.specs.Groups.{among, combination}
use Rattle.sets.specs.Sets.{member, members}
use Rattle.sets.specs.declared.TrioSet.{TrioSet}
use Rattle.sets.proofs.Kept.{kept_agree, kept_none}
use Rattle.sets.proofs.Members.{members_below}
use Rattle.weighing.proofs.Gathered.{kept_next}
use Rattle.weighing.proofs.Grouped.{among_member}

-- the numbers rise, from n on and below 16
abbrev pub Rising : ℕ → List ℕ → Type 0
Rising n [] = Unit {0}
Rising n (v ∷ vs) = (n ≤ v) × (v < 16) × Rising (v + 1) vs

rising_from : (n m : ℕ) (vs : List ℕ) → n ≤ m → Rising m vs → Rising n vs
rising_from n m [] le h = tt
rising_from n m (v ∷ vs) le h = (omega (arith, le, h.0), h.1, h.2)

rising_kept : (p : ℕ → Bool) (a n : ℕ) → a + n ≤ 16 → Rising a (filter p (range_with_len a n))
rising_kept p a zero le = tt
rising_kept p a (suc n) le = one (p a) (rising_kept p (a + 1) n (omega (arith, le)))
  where
    one : (b : Bool) → Rising (a + 1) (filter p (range_with_len (a + 1) n)) → Rising a (cond b (a ∷ filter p (range_with_len (a + 1) n)) (filter p (range_with_len (a + 1) n)))
    one true h = (omega arith, omega (arith, le), h)
    one false h = rising_from a (a + 1) (filter p (range_with_len (a + 1) n)) (omega arith) h

module _ (voters : TrioSet) (j : ℕ) where
  -- all chosen are below n and all to come from n on, and what the digits left choose of these makes up the combination
  abbrev pub Picked : TrioSet → ℕ → List ℕ → Type 0
  Picked chosen digits rest =
      (n : ℕ) × Rising n rest × ((k : ℕ) → n ≤ k → member chosen k ≡ false) × (members chosen ++ combination rest digits ≡ combination (members voters) j)

  pub none_picked : (none : TrioSet) (rest : List ℕ) → ((k : ℕ) → member none k ≡ false) → rest ≡ members voters → Picked none j rest
  unfolding members
  none_picked none rest empty all =
      let P : List ℕ → Type 0 = Picked none j in
      subst P (sym all) (0, rising_kept (member voters) 0 16 (omega arith), (λ k h. empty k), ap (λ xs. xs ++ combination (members voters) j) (kept_none (member none) 0 16 (λ k lo hi. empty k)))

  pub all_picked : (chosen : TrioSet) (digits : ℕ) → Picked chosen digits [] → members chosen ≡ combination (members voters) j
  unfolding combination
  all_picked chosen digits picked = sym (append-nil (members chosen)) ∙ picked.3

  module _ (chosen : TrioSet) (digits v : ℕ) (rest : List ℕ) (picked : Picked chosen digits (v ∷ rest)) where
    -- with the digit taken off, what is left to choose
    taken_off : (b : Bool) → eqb (digits % 2) 1 ≡ b → cond b (v ∷ combination rest (digits / 2)) (combination rest (digits / 2)) ≡ combination (v ∷ rest) digits
    unfolding combination
    taken_off b digit = ap (λ d. cond d (v ∷ combination rest (digits / 2)) (combination rest (digits / 2))) (sym digit)

    -- the digit says no
    pub left_whole : eqb (digits % 2) 1 ≡ false → Picked chosen (digits / 2) rest
    left_whole digit = (v + 1, picked.1.2, (λ k h. picked.2 k (omega (arith, picked.1.0, h))), ap (λ xs. members chosen ++ xs) (taken_off false digit) ∙ picked.3)

    -- the digit says yes
    pub made_faulty : (next : TrioSet) → ((k : ℕ) → member next k ≡ (member chosen k || (eqb k v && ltb v 16))) → eqb (digits % 2) 1 ≡ true → Picked next (digits / 2) rest
    made_faulty next with digit = (
      v + 1,
      picked.1.2,
      later,
      ap (λ xs. xs ++ combination rest (digits / 2)) one_more ∙ append_assoc (members chosen) (v ∷ []) (combination rest (digits / 2)) ∙ ap (λ xs. members chosen ++ xs) (taken_off true digit) ∙ picked.3,
    )
      where
        later : (k : ℕ) → v + 1 ≤ k → member next k ≡ false
        later k h = with k ∙ (λ i. picked.2 k (omega (arith, picked.1.0, h)) i || (ne_eqb k v (omega (arith, h)) i && ltb v 16))

        same : (k : ℕ) → 0 ≤ k → k < 0 + v → member next k ≡ member chosen k
        same k lo hi = with k ∙ ap (λ b. member chosen k || (b && ltb v 16)) (ne_eqb k v (omega arith)) ∙ grind (arith, nat_tests)

        here : member next v ≡ true
        here = with v ∙ or_right (member chosen v) (eqb v v && ltb v 16) (λ i. eq-eqb v v refl i && lt-ltb v 16 picked.1.1 i)

        one_more : members next ≡ members chosen ++ (v ∷ [])
        one_more =
            members_below next (v + 1) (omega (arith, picked.1.1)) later ∙ kept_next (member next) v
            ∙ (λ i. kept_agree (member next) (member chosen) 0 v same i ++ cond (here i) (v ∷ []) [])
            ∙ ap (λ xs. xs ++ (v ∷ [])) (sym (members_below chosen v (omega (arith, picked.1.1)) (λ k h. picked.2 k (omega (arith, picked.1.0, h)))))

-- a combination has only some of the voters
among_combination : (k : ℕ) (vs : List ℕ) (j : ℕ) → among (combination vs j) k ≡ true → among vs k ≡ true
unfolding combination
among_combination k [] j h = h
among_combination k (v ∷ vs) j h =
    ⊎_elim
    (λ odd. ⊎_elim (or_left (eqb k v) (among vs k)) (λ p. or_right (eqb k v) (among vs k) (among_combination k vs (j / 2) p)) (or_cases (eqb k v) (among (combination vs (j / 2)) k) (sym (ap (λ b. among (cond b (v ∷ combination vs (j / 2)) (combination vs (j / 2))) k) odd) ∙ h)))
    (λ even. or_right (eqb k v) (among vs k) (among_combination k vs (j / 2) (sym (ap (λ b. among (cond b (v ∷ combination vs (j / 2)) (combination vs (j / 2))) k) even) ∙ h)))
    (cases_Bool (eqb (j % 2) 1))

pub chosen_inside : (voters chosen : TrioSet) (j : ℕ) → members chosen ≡ combination (members voters) j → (k : ℕ) → member chosen k ≡ true → member voters k ≡ true
chosen_inside voters chosen j is k h =
    sym (among_member voters k) ∙ among_combination k (members voters) j (ap (λ xs. among xs k) (sym is) ∙ among_member chosen k ∙ h)

-- A cell found from links, by its sets, is the cell of the network by its lists.
use Rattle.std.proofs.Common.{◌≡◌, ℕ, ◌<◌, ◌≤◌, Bool, true, ◌&&◌, ltb, filter, sym, ◌∙◌, subst, ap₂, ⊎_elim, arith}
use Rattle.std.specs.List.{range_with_len}
use Rattle.std.proofs.lemmas.Bool.{and_parts, and_right, and_from, cases_Bool, lt-ltb, ltb-true}
use Rattle.network.specs.Cells.{edges, members_with, modules_with, together, voters_with}
use Rattle.network.specs.Limits.{inside}
use Rattle.network.specs.Networks.{Network, module_count, present, voter_count}
use Rattle.network.specs.declared.Trio.{Trio}
use Rattle.network.specs.declared.Trio.TheVariants.{Voter, Module}
use Rattle.network.proofs.Chains.{chain_from_joined}
use Rattle.network.proofs.Inside.{chain_present}
use Rattle.sets.specs.Lists.{all}
use Rattle.sets.specs.Sets.{member, members}
use Rattle.sets.specs.declared.TrioSet.{TrioSet}
use Rattle.sets.proofs.Kept.{kept_same}
use Rattle.sets.proofs.Members.{members_below}
use Rattle.wiring.specs.CellSets.{holds, in_range, shown}
use Rattle.wiring.specs.declared.cell.Cell.{Cell}

-- the cell holds what a chain joins to t, of the trios that there is room for
abbrev pub Around : Network → Trio → Cell → Type 0
Around n t cell = (u : Trio) → holds cell u ≡ (in_range u && together n t u)

-- what is joined to a trio of the network is a trio of the network
pub together_present : (n : Network) (t u : Trio) → all (inside n) n.links ≡ true → present n t ≡ true → together n t u ≡ true → present n u ≡ true
together_present n t u ins here j =
    let P : Trio → Type 0 = λ x. present n x ≡ true in
    ⊎_elim (λ e. subst P e here) (λ p. p.1) (chain_present n t u ins (chain_from_joined (edges n) t u j))

-- a set that has just what a test picks, below n ≤ 16, by its list
set_list : (s : TrioSet) (test : ℕ → Bool) (n : ℕ) → n ≤ 16 → ((k : ℕ) → member s k ≡ (ltb k 16 && test k)) → ((k : ℕ) → test k ≡ true → k < n) → members s ≡ filter test (range_with_len 0 n)
set_list s test n fits is below =
    members_below s n fits (λ k h. ⊎_elim (λ p. absurd (past k h (and_parts (ltb k 16) (test k) (sym (is k) ∙ p)).1)) (λ p. p) (cases_Bool (member s k)))
    ∙ kept_same (member s) test (range_with_len 0 n) (λ k. is k ∙ ⊎_elim (in_room k) (λ p. and_right (ltb k 16) (test k) p ∙ sym p) (cases_Bool (test k)))
  where
    past : (k : ℕ) → n ≤ k → test k ≡ true → ⊥
    past k h p = let lt = below k p in omega arith

    in_room : (k : ℕ) → test k ≡ true → (ltb k 16 && test k) ≡ test k
    in_room k p = let lt = below k p in and_from _ _ (lt-ltb k 16 (omega arith)) p ∙ sym p

module _ (n : Network) (t : Trio) (cell : Cell) (few_voters : voter_count n ≤ 16) (few_modules : module_count n ≤ 15) (ins : all (inside n) n.links ≡ true) (here : present n t ≡ true) (around : Around n t cell) where
  pub voters_are : members cell.voters ≡ voters_with n t
  unfolding voters_with
  voters_are =
      set_list cell.voters (λ v. together n t (Voter v)) (voter_count n) few_voters (λ v. around (Voter v))
      (λ v j. ltb-true v (voter_count n) (together_present n t (Voter v) ins here j))

  pub modules_are : members cell.modules ≡ modules_with n t
  unfolding modules_with
  modules_are =
      set_list cell.modules (λ m. together n t (Module m)) (module_count n) (omega arith) (λ m. around (Module m))
      (λ m j. ltb-true m (module_count n) (together_present n t (Module m) ins here j))

  pub shown_are : shown cell ≡ members_with n t
  shown_are = ap₂ (λ (a b : mathlib.Core.List.List ℕ). (a, b)) voters_are modules_are

-- The rows of some voters, and none of the others, hold their links.
use Rattle.std.proofs.Common.{◌≡◌, ℕ, zero, suc, ◌+◌, ◌<◌, ◌≤◌, Bool, true, false, ◌&&◌, List, get_or, filter, sym, refl, ap, ◌∙◌, ⊎_elim, inl, inr, subst, arith}
use Rattle.std.specs.Array.{IsFromFnResultFrom}
use Rattle.std.proofs.lemmas.Bool.{cases_Bool, cases_eq, cases_lt}
use Rattle.network.proofs.Links.{rising_kept}
use Rattle.sets.specs.Sets.{member}
use Rattle.sets.specs.declared.TrioSet.{TrioSet}
use Rattle.wiring.specs.Wires.{feeds, link_list, no_row}
use Rattle.wiring.specs.declared.links.Links.{Links}
use Rattle.wiring.proofs.Rows.{feeds_range, list_is, rising_list, stands_kept, stands_list}
use denote.Param.Members.{Mut, Called}

-- a row holds what voter v feeds, if it is in the set
abbrev pub Kept : Links → TrioSet → ℕ → TrioSet → Type 0
Kept ls voters v row = (m : ℕ) → member row m ≡ (member voters v && feeds ls v m)

-- what a closure gave at each index, where no call changes it
module _ {F : Type 0} (g : Mut F (ℕ × Unit {0}) TrioSet) (f : F) (P : ℕ → TrioSet → Type 0) (call : (i : ℕ) (y : TrioSet) (q : F) → Called g f (i, tt) y q → (q ≡ f) × P i y) where
  pub given : (ys : List TrioSet) (i n : ℕ) → IsFromFnResultFrom g f ys i n → (j : ℕ) → i ≤ j → j < i + n → P j (get_or ys j no_row)
  given ys i zero calls j low high = absurd (omega arith)
  given ys i (suc n) (q, y, element, called, rest) j low high = elim (cases_eq i j) [
    | inl here ↦ subst (λ k. P k (get_or ys k no_row)) here (subst (P i) (sym (element.1 no_row)) (call i y q called).1)
    | inr later ↦ given ys (i + 1) n (subst (λ p. IsFromFnResultFrom g p ys (i + 1) n) (call i y q called).0 rest) j (omega arith) (omega arith)
  ]

-- such rows hold the links of the voters
pub list_kept : (ls rs : Links) (voters : TrioSet) → ((v : ℕ) → v < 16 → Kept ls voters v (get_or rs.rows v no_row)) → link_list rs ≡ filter (λ l. member voters l.0) (link_list ls)
unfolding feeds
list_kept ls rs voters kept =
    list_is rs (filter (λ l. member voters l.0) (link_list ls)) (rising_kept (λ l. member voters l.0) (link_list ls) (rising_list ls))
    (λ l. same l.0 l.1 ∙ sym (stands_kept (λ j. member voters j.0) l (link_list ls) ∙ ap (λ b. b && member voters l.0) (stands_list ls l)))
  where
    swap : (a b : Bool) → (a && b) ≡ (b && a)
    swap true true = refl
    swap true false = refl
    swap false true = refl
    swap false false = refl

    past : (ts : Links) (v m : ℕ) → 16 ≤ v → feeds ts v m ≡ false
    past ts v m high = ⊎_elim (λ h. absurd (omega (arith, (feeds_range ts v m h).0))) (λ h. h) (cases_Bool (feeds ts v m))

    same : (v m : ℕ) → feeds rs v m ≡ (feeds ls v m && member voters v)
    same v m = elim (cases_lt v 16) [
      | inl low ↦ kept v low m ∙ swap (member voters v) (feeds ls v m)
      | inr high ↦ past rs v m high ∙ sym (ap (λ b. b && member voters v) (past ls v m high))
    ]

-- Cells are numbered from 0 without a gap, and trios have one number just where a chain of links joins them.
use Rattle.std.proofs.Common.{◌≡◌, ℕ, ◌<◌, true, false, ◌&&◌, length, get_or, sym, refl, ap, ◌∙◌, ⊎_elim, arith}
use Rattle.std.specs.List.{AllByRecursion as All}
use Rattle.std.proofs.ByRecursion.{All-from_get_or, All-get_or, all_kept_by, kept_by_passes}
use Rattle.std.proofs.lemmas.Bool.{and_from, both_ways, cases_Bool, cases_lt}
use Rattle.std.proofs.lemmas.Bool.Decides.{same_from_decides}
use Rattle.sets.specs.Lists.{any}
use Rattle.sets.proofs.Kept.{any_from, any_kept, any_true}
use Rattle.network.specs.Cells.{cell_count, cell_of, cells, edges, leads, place, precedes, together}
use Rattle.network.specs.Chains.{Chain}
use Rattle.network.specs.Networks.{Network, present, trios}
use Rattle.network.specs.Partition.{CellsAreNumbered}
use Rattle.network.specs.declared.Trio.{Trio}
use Rattle.network.specs.declared.Trio.TheVariants.{Voter}
use Rattle.network.proofs.Chains.{chain_from_joined, joined_back, joined_from_chain, joined_itself, joined_on}
use Rattle.network.proofs.InOrder.{in_order_at, in_order_from, in_order_kept}
use Rattle.network.proofs.Leads.{leads_from, leads_not}
use Rattle.network.proofs.Trios.{length_trios, place_before, place_passes, place_same, place_upto, precedes_at, trio_present, trio_stands, trios_in_order}

module _ (n : Network) where
  -- the trio that cell c is listed by
  abbrev leader : ℕ → Trio
  leader c = get_or (cells n) c (Voter 0)

  leader_present : (c : ℕ) → c < cell_count n → present n (leader c) ≡ true
  unfolding cells
  leader_present c within =
      let P : Trio → Type 0 = λ t. present n t ≡ true in
      let each : All P (trios n) = All-from_get_or P (trios n) (Voter 0) (λ k lt. trio_present n k (omega (arith, length_trios n))) in
      All-get_or P (cells n) c (Voter 0) within (all_kept_by (leads n) P (trios n) each)

  leader_leads : (c : ℕ) → c < cell_count n → leads n (leader c) ≡ true
  unfolding cells
  leader_leads c within = All-get_or (λ t. leads n t ≡ true) (cells n) c (Voter 0) within (kept_by_passes (leads n) (trios n))

  leaders_in_order : (b c : ℕ) → b < c → c < cell_count n → precedes (leader b) (leader c) ≡ true
  unfolding cells
  leaders_in_order =
      let R : Trio → Trio → Type 0 = λ t u. precedes t u ≡ true in
      in_order_at R (cells n) (Voter 0) (in_order_kept R (leads n) (trios n) (in_order_from R (trios n) (Voter 0) (trios_in_order n)))

  -- so no leader is joined to an earlier one
  leaders_apart : (b c : ℕ) → b < c → c < cell_count n → together n (leader c) (leader b) ≡ true → ⊥
  leaders_apart b c lt within j =
      both_ways _ (leads_not n (leader c) (leader b) (leader_present b (omega arith)) (leaders_in_order b c lt within) j) (leader_leads c within)

  -- a trio is joined to the leader of its cell
  to_leader : (t : Trio) → cell_of n t < cell_count n → together n t (leader (cell_of n t)) ≡ true
  unfolding cell_of
  to_leader t within = place_passes (together n t) (Voter 0) (cells n) within

  listed_at : (c : ℕ) → c < cell_count n → cell_of n (leader c) ≡ c
  unfolding cell_of
  listed_at c within =
      let upto = place_upto (together n (leader c)) (Voter 0) (cells n) c (joined_itself (edges n) (leader c)) in
      ⊎_elim
      (λ lt. absurd (leaders_apart (cell_of n (leader c)) c lt within (to_leader (leader c) (omega arith))))
      (λ le. omega arith)
      (cases_lt (cell_of n (leader c)) c)

  -- the first of the trios that are joined to t leads
  first_leads : (t : Trio) (k : ℕ) → k ≡ place (together n t) (trios n) → together n t (get_or (trios n) k (Voter 0)) ≡ true → leads n (get_or (trios n) k (Voter 0)) ≡ true
  first_leads t k is j = leads_from n first apart
    where
      first : Trio
      first = get_or (trios n) k (Voter 0)

      apart : (u : Trio) → present n u ≡ true → precedes u first ≡ true → together n first u ≡ false
      apart u here before =
          let s = trio_stands n u here in
          let lt = precedes_at n s.0 k s.1 (ap (λ x. precedes x first) s.2 ∙ before) in
          let off : together n t u ≡ false = ap (together n t) (sym s.2) ∙ place_before (together n t) (Voter 0) (trios n) s.0 (omega arith) in
          ⊎_elim (λ on. absurd (both_ways _ off (joined_on (edges n) t first u j on))) (λ no. no) (cases_Bool (together n first u))

  in_a_cell : (t : Trio) → present n t ≡ true → cell_of n t < cell_count n
  unfolding cells cell_of
  in_a_cell t here =
      let s = trio_stands n t here in
      let k = place (together n t) (trios n) in
      let upto = place_upto (together n t) (Voter 0) (trios n) s.0 (ap (together n t) s.2 ∙ joined_itself (edges n) t) in
      let lt : k < length (trios n) = omega arith in
      let j = place_passes (together n t) (Voter 0) (trios n) lt in
      let some : any (λ x. leads n x && together n t x) (trios n) ≡ true = any_from _ (trios n) (Voter 0) k lt (and_from _ _ (first_leads t k refl j) j) in
      let r = any_true (together n t) (cells n) (Voter 0) (any_kept (together n t) (leads n) (trios n) ∙ some) in
      omega (arith, place_upto (together n t) (Voter 0) (cells n) r.0 r.2)

  joined_same : (t u : Trio) → Chain (edges n) t u → cell_of n t ≡ cell_of n u
  unfolding cell_of
  joined_same t u chain =
      let j = joined_from_chain (edges n) t u chain in
      let k = joined_back (edges n) t u j in
      place_same (together n t) (together n u) (cells n)
      (λ x. same_from_decides {P = together n u x ≡ true} _ _ (joined_on (edges n) u t x k, joined_on (edges n) t u x j) (λ h. h, λ h. h))

  same_joined : (t u : Trio) → present n t ≡ true → present n u ≡ true → cell_of n t ≡ cell_of n u → Chain (edges n) t u
  same_joined t u here there same =
      let e = edges n in
      let at : together n t (leader (cell_of n u)) ≡ true = ap (λ c. together n t (leader c)) (sym same) ∙ to_leader t (in_a_cell t here) in
      chain_from_joined e t u (joined_on e t _ u at (joined_back e u _ (to_leader u (in_a_cell u there))))

pub cells_numbered : CellsAreNumbered
cells_numbered n = record { within = in_a_cell n; joins = same_joined n; joined_are = joined_same n; listed = listed_at n }

-- The sum over the states of a network's voters is the product over its cells.
use Rattle.std.proofs.Common.{◌≡◌, ℕ, ◌<◌, true, false, not, List, get_or, sym, refl, ap, ◌∙◌, inl, ⊎_elim, arith}
use Rattle.std.specs.List.{range_with_len, AllByRecursion as All}
use Rattle.std.proofs.lemmas.List.FromFn.{get_or-range_with_len, length-range_with_len}
use Rattle.std.proofs.ByRecursion.{All-from_get_or}
use Rattle.std.proofs.lemmas.Bool.{cases_Bool, lt-ltb, not_from_true}
use Rattle.std.proofs.lemmas.Bool.Decides.{same_from_decides}
use Rattle.algebra.specs.Laws.{Kind, Laws}
use Rattle.algebra.specs.Sums.{product}
use Rattle.algebra.proofs.Sums.{fold_map, op_empty, products}
use Rattle.sets.specs.Lists.{any}
use Rattle.sets.proofs.Kept.{any_from, kept_none}
use Rattle.network.specs.Cells.{Members, all_cells, cell_count, cell_of, cells, edges, members_with, modules_with, together, voters_with}
use Rattle.network.specs.Networks.{Network, linked, module_count, present, voter_count}
use Rattle.network.specs.Patterns.{State, Weights}
use Rattle.network.specs.declared.Trio.{Trio}
use Rattle.network.specs.declared.Trio.TheVariants.{Voter, Module}
use Rattle.network.proofs.Chains.{chain_from_joined, joined_back, joined_beside, joined_both, joined_on}
use Rattle.network.proofs.InOrder.{in_order_from}
use Rattle.network.proofs.Inside.{link_step}
use Rattle.network.proofs.Numbered.{cells_numbered}
use Rattle.network.proofs.Trios.{place_passes}
use Rattle.method.proofs.Lists.{all_each}
use Rattle.method.proofs.Split.{Classes, split_classes}
use Rattle.method.proofs.Ways.{factor, unmarked, ways}

-- what holds of every number below n holds of those listed
all_below : (P : ℕ → Type 0) (n : ℕ) → ((i : ℕ) → i < n → P i) → All P (range_with_len 0 n)
all_below P n h =
    All-from_get_or P (range_with_len 0 n) 0 (λ i lt. let at = get_or-range_with_len 0 n i 0 (omega (arith, length-range_with_len 0 n)) in h (get_or (range_with_len 0 n) i 0) (omega (arith, length-range_with_len 0 n)))

module _ (n : Network) where
  -- every trio is in the cell of some leader
  in_a_cell : (t : Trio) → present n t ≡ true → any (λ h. together n h t) (cells n) ≡ true
  unfolding cell_of
  in_a_cell t here =
      let lt = (cells_numbered n).within t here in
      let h = get_or (cells n) (cell_of n t) (Voter 0) in
      any_from (λ h. together n h t) (cells n) (Voter 0) (cell_of n t) lt (joined_both (edges n) h t ∙ place_passes (together n t) (Voter 0) (cells n) lt)

  -- and of no other
  in_no_other : (t : Trio) (b c : ℕ) → b < c → c < cell_count n → together n (get_or (cells n) b (Voter 0)) t ≡ true → together n (get_or (cells n) c (Voter 0)) t ≡ false
  in_no_other t b c lt within here =
      let numbered = cells_numbered n in
      ⊎_elim
      (λ there.
      let same : b ≡ c =
      sym (numbered.listed b (omega arith))
      ∙ numbered.joined_are (get_or (cells n) b (Voter 0)) t (chain_from_joined (edges n) _ t here)
      ∙ sym (numbered.joined_are (get_or (cells n) c (Voter 0)) t (chain_from_joined (edges n) _ t there))
      ∙ numbered.listed c within in
      absurd (omega arith))
      (λ away. away)
      (cases_Bool (together n (get_or (cells n) c (Voter 0)) t))

  -- a link joins trios of one cell
  pub link_inside : (t : Trio) (v m : ℕ) → linked n v m ≡ true → together n t (Voter v) ≡ together n t (Module m)
  link_inside t v m h =
      let beside : together n (Voter v) (Module m) ≡ true = joined_beside (edges n) (Voter v) (Module m) (link_step n.links (v, m) (Voter v) (Module m) h (inl (refl, refl))) in
      same_from_decides {P = together n t (Module m) ≡ true} _ _
      (λ k. joined_on (edges n) t (Voter v) (Module m) k beside, λ k. joined_on (edges n) t (Module m) (Voter v) k (joined_back (edges n) (Voter v) (Module m) beside))
      (λ k. k, λ k. k)

  cell_classes : Classes (λ h v. together n h (Voter v)) (λ h m. together n h (Module m)) (linked n) (cells n) (range_with_len 0 (voter_count n))
  cell_classes =
      record {
        covers = all_below (λ v. any (λ h. together n h (Voter v)) (cells n) ≡ true) (voter_count n) (λ v lt. in_a_cell (Voter v) (lt-ltb v (voter_count n) lt));
        apart = in_order_from _ (cells n) (Voter 0) (λ b c lt within. (λ v. in_no_other (Voter v) b c lt within, λ m. in_no_other (Module m) b c lt within));
        inside = all_each (λ v. (h : Trio) (m : ℕ) → linked n v m ≡ true → together n h (Voter v) ≡ together n h (Module m)) (λ v h m. link_inside h v m) (range_with_len 0 (voter_count n));
      }

  pub ways_by_cells : (k : Kind) → Laws k → (sources places : ℕ → Weights k) (ss : List State)
      → ways k sources places (linked n) ss (range_with_len 0 (voter_count n)) (range_with_len 0 (module_count n)) unmarked ≡ product k (λ c. ways k sources places (linked n) ss c.0 c.1 unmarked) (all_cells n)
  unfolding all_cells voters_with modules_with
  ways_by_cells k laws sources places ss =
      let own : Members → k.Value = λ c. ways k sources places (linked n) ss c.0 c.1 unmarked in
      let none_left = kept_none (λ m. not (any (λ h. together n h (Module m)) (cells n))) 0 (module_count n) (λ m low high. not_from_true _ (in_a_cell (Module m) (lt-ltb m (module_count n) (omega arith)))) in
      split_classes k laws sources places (linked n) ss (λ h v. together n h (Voter v)) (λ h m. together n h (Module m)) (cells n) (range_with_len 0 (voter_count n)) (range_with_len 0 (module_count n)) unmarked cell_classes
      ∙ ap (λ ms. k.times (product k (λ h. own (members_with n h)) (cells n)) (product k (λ m. factor k (places m) (unmarked m)) ms)) none_left
      ∙ op_empty (products k laws) (product k (λ h. own (members_with n h)) (cells n))
      ∙ sym (fold_map (products k laws) own (members_with n) (cells n))

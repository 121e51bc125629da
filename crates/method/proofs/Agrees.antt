-- The cell method gives the total over all tolerated patterns.
use Rattle.std.proofs.Common.{◌≡◌, ℕ, zero, suc, ◌+◌, ◌<◌, Bool, true, List, [], ◌∷◌, length, take, drop, sym, refl, ◌∙◌, arith}
use Rattle.std.specs.List.{range_with_len, AllByRecursion as All}
use Rattle.std.proofs.lemmas.List.{get_or-drop, get_or-take}
use Rattle.std.proofs.lemmas.Bool.{and_parts, ltb-true}
use Rattle.algebra.specs.Laws.{Kind, Laws}
use Rattle.algebra.proofs.Sums.{fold_map, fold_same, products, sums}
use Rattle.sets.proofs.Kept.{in_kept}
use Rattle.network.specs.Cells.{Members, all_cells, cells, members_with, modules_with, together, voters_with}
use Rattle.network.specs.Limits.{inside, within_limits}
use Rattle.network.specs.Networks.{Network, has_module, has_voter, linked, module_count, voter_count}
use Rattle.network.specs.Patterns.{State, Weights, states, total}
use Rattle.network.specs.declared.Trio.{Trio}
use Rattle.network.specs.declared.Trio.TheVariants.{Voter, Module}
use Rattle.network.proofs.Inside.{stands_passes}
use Rattle.network.proofs.Keeps.{limits}
use Rattle.method.specs.Method.{by_cells, cell_weight, entry, merged}
use Rattle.method.proofs.Cell.{Closed, cell_ways}
use Rattle.method.proofs.Cells.{link_inside, ways_by_cells}
use Rattle.method.proofs.Lists.{Rising, among_kept, rising_kept}
use Rattle.method.proofs.Plain.{total_ways}
use Rattle.method.proofs.Ways.{Mark, join, left_at, unmarked, ways}

module _ (n : Network) (h : Trio) where
  voters_rise : Rising (voters_with n h)
  unfolding voters_with
  voters_rise = rising_kept (λ v. together n h (Voter v)) 0 (voter_count n)

  -- the modules that a cell's voters feed are in the cell
  links_stay : within_limits n ≡ true → Closed n.links (voters_with n h) (modules_with n h)
  unfolding voters_with modules_with
  links_stay fits v m here fed =
      let own = (and_parts (together n h (Voter v)) _ (sym (among_kept (λ u. together n h (Voter u)) (range_with_len 0 (voter_count n)) v) ∙ here)).0 in
      let there = (and_parts (has_voter n v) (has_module n m) (stands_passes (inside n) (v, m) n.links (limits n fits).insides fed)).1 in
      in_kept (λ r. together n h (Module r)) (module_count n) m (ltb-true m (module_count n) there) ∙ sym (link_inside n h v m fed) ∙ own

-- `ways` asks for the weights of its own sources only
module _ (k : Kind) (laws : Laws k) (sources others places : ℕ → Weights k) (row : ℕ → ℕ → Bool) (ss : List State) where
  same_sources : (vs rs : List ℕ) (marks : ℕ → Mark) → All (λ v. sources v ≡ others v) vs → ways k sources places row ss vs rs marks ≡ ways k others places row ss vs rs marks
  same_sources [] rs marks h = refl
  same_sources (v ∷ vs) rs marks h =
      fold_same (sums k laws) (λ x. k.times (sources v x) (ways k sources places row ss vs rs (λ r. join (marks r) (left_at row v x r)))) (λ x. k.times (others v x) (ways k others places row ss vs rs (λ r. join (marks r) (left_at row v x r)))) ss
      (λ x i. k.times (h.0 i x) (same_sources vs rs (λ r. join (marks r) (left_at row v x r)) h.1 i))

below : {P : ℕ → Type 0} (a n : ℕ) → ((v : ℕ) → v < a + n → P v) → All P (range_with_len a n)
below a zero h = tt
below a (suc n) h = (h a (omega arith), below (a + 1) n (λ v l. h v (omega (arith, l))))

pub method_agrees : (k : Kind) → Laws k → (n : Network) → within_limits n ≡ true → (ws : List (Weights k)) → length ws ≡ voter_count n + module_count n → by_cells k n ws ≡ total k n ws
unfolding by_cells all_cells
method_agrees k laws n fits ws long =
    let voters : ℕ → Weights k = entry k (take (voter_count n) ws) in
    let modules : ℕ → Weights k = λ m. merged k (entry k (drop (voter_count n) ws) m) in
    let by_formula : Members → k.Value = cell_weight k voters modules n.links in
    let by_states : Members → k.Value = λ c. ways k voters modules (linked n) states c.0 c.1 unmarked in
    fold_map (products k laws) by_formula (members_with n) (cells n)
    ∙ fold_same (products k laws) (λ h. by_formula (members_with n h)) (λ h. by_states (members_with n h)) (cells n)
    (λ h. sym (cell_ways k laws voters modules n.links (voters_with n h) (modules_with n h) (voters_rise n h) (links_stay n h fits)))
    ∙ sym (fold_map (products k laws) by_states (members_with n) (cells n))
    ∙ sym (ways_by_cells n k laws voters modules states)
    ∙ (λ i. ways k voters (λ m. merged k (get_or-drop (voter_count n) ws m (λ _. k.unit) i)) (linked n) states (range_with_len 0 (voter_count n)) (range_with_len 0 (module_count n)) unmarked)
    ∙ same_sources k laws voters (entry k ws) (λ m. merged k (entry k ws (voter_count n + m))) (linked n) states (range_with_len 0 (voter_count n)) (range_with_len 0 (module_count n)) unmarked
    (below 0 (voter_count n) (λ v h. get_or-take (voter_count n) ws v (λ _. k.unit) (omega (arith, h))))
    ∙ sym (total_ways k laws n ws long)

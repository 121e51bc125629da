-- The sum over all states of a cell's voters is the cell's weight by the method's formula.
use Rattle.std.proofs.Common.{◌≡◌, ℕ, ◌^◌, ◌<◌, Bool, true, cond, ◌&&◌, List, map, length, filter, sym, ap, ◌∙◌, ap₂}
use Rattle.std.specs.List.{range_with_len, AllByRecursion as All}
use Rattle.std.proofs.ByRecursion.{All-weaker, kept_by_passes}
use Rattle.std.proofs.lemmas.Bool.{and_from, and_parts}
use Rattle.algebra.specs.Laws.{Kind, Laws}
use Rattle.algebra.specs.Sums.{product}
use Rattle.algebra.proofs.Sums.{fold_same, fold_same_on, products, sums}
use Rattle.network.specs.Cells.{edge}
use Rattle.network.specs.Chains.{Chain}
use Rattle.network.specs.Networks.{Link, stands}
use Rattle.network.specs.Patterns.{Position, A, B, C, whole, at, states, Weights}
use Rattle.network.specs.declared.Trio.TheVariants.{Voter, Module}
use Rattle.network.proofs.Chains.{chain_from_joined, joined_back, joined_itself, joined_on}
use Rattle.network.proofs.InOrder.{in_order_kept}
use Rattle.sets.specs.Lists.{any}
use Rattle.method.specs.Groups.{among, combination, group, heads, links_of, tied, unfed}
use Rattle.method.specs.Method.{cell_weight, combination_weight, group_at, group_weight}
use Rattle.method.proofs.Choices.{all_combination, choices, chosen, rest_left_out, rising_combination, three}
use Rattle.method.proofs.Heads.{classes, fed_by, heads_among, no_group_unfed, stands_of, tied_alike, tied_link}
use Rattle.method.proofs.Lists.{Rising, all_among, among_all, among_kept, any_among}
use Rattle.method.proofs.Split.{split_classes}
use Rattle.method.proofs.Tied.{Within, all_at, tied_ways}
use Rattle.method.proofs.Ways.{none, one, factor, unmarked, ways}

-- each link of one of the voters goes to one of the modules
abbrev pub Closed : List Link → List ℕ → List ℕ → Type 0
Closed ls vs ms = (v m : ℕ) → among vs v ≡ true → stands ls (v, m) ≡ true → among ms m ≡ true

module _ (k : Kind) (laws : Laws k) (voters modules : ℕ → Weights k) (ls : List Link) where
  abbrev row : ℕ → ℕ → Bool
  row v m = stands ls (v, m)

  -- one combination
  module _ (xs ms : List ℕ) (rises : Rising xs) (closed : Closed ls xs ms) where
    -- one group of it, by its head
    module _ (h : ℕ) (here : among xs h ≡ true) where
      abbrev vs : List ℕ
      vs = filter (λ v. tied ls xs (Voter h) (Voter v)) xs

      abbrev rs : List ℕ
      rs = filter (λ m. tied ls xs (Voter h) (Module m)) ms

      abbrev links : List Link
      links = links_of xs ls

      in_group : (v : ℕ) → among vs v ≡ true → (tied ls xs (Voter h) (Voter v) ≡ true) × (among xs v ≡ true)
      in_group v e = and_parts _ _ (sym (among_kept (λ u. tied ls xs (Voter h) (Voter u)) xs v) ∙ e)

      within : Within row vs rs links
      within v m st =
          let both = and_parts (among xs v) (stands ls (v, m)) (sym (stands_of ls xs v m) ∙ st) in (
            both.1,
            among_kept (λ u. tied ls xs (Voter h) (Voter u)) xs v
                ∙ ap₂ ◌&&◌ (tied_alike ls xs (Voter h) (Voter v) (Module m) (tied_link ls xs v m both.0 both.1)) (both.0 ∙ sym (closed v m both.0 both.1))
                ∙ sym (among_kept (λ r. tied ls xs (Voter h) (Module r)) ms m),
          )

      chained : (u w : ℕ) → among vs u ≡ true → among vs w ≡ true → Chain (map edge links) (Voter u) (Voter w)
      chained u w at_u at_w =
          let e = map edge links in
          chain_from_joined e (Voter u) (Voter w) (joined_on e (Voter u) (Voter h) (Voter w) (joined_back e (Voter h) (Voter u) (in_group u at_u).0) (in_group w at_w).0)

      -- each of its modules is fed by one of its voters
      fed : All (λ m. any (λ v. row v m) vs ≡ true) rs
      fed =
          All-weaker (λ m. tied ls xs (Voter h) (Module m) ≡ true) (λ m. any (λ v. row v m) vs ≡ true)
          (λ m e. let f = fed_by ls xs h m e in
          let same = tied_alike ls xs (Voter h) (Voter f.0) (Module m) (tied_link ls xs f.0 m f.1 f.2) in
          any_among (λ v. row v m) vs f.0 (among_kept (λ u. tied ls xs (Voter h) (Voter u)) xs f.0 ∙ and_from _ _ (same ∙ e) f.1) f.2)
          rs (kept_by_passes (λ m. tied ls xs (Voter h) (Module m)) ms)

      alone : (p : Position) → all_at k voters modules row vs rs unmarked p ≡ group_at k voters modules (vs, rs) p
      alone p =
          ap (k.times (product k (λ v. voters v (at p)) vs))
          (fold_same_on (products k laws) (λ m. factor k (modules m) (cond (any (λ v. row v m) vs) (one p) none)) (λ m. modules m (at p)) rs
          (All-weaker (λ m. any (λ v. row v m) vs ≡ true) (λ m. factor k (modules m) (cond (any (λ v. row v m) vs) (one p) none) ≡ modules m (at p))
          (λ m e. ap (λ b. factor k (modules m) (cond b (one p) none)) e) rs fed))

      pub group_ways : ways k voters modules row three vs rs unmarked ≡ group_weight k voters modules (group ls xs ms h)
      unfolding group
      group_ways =
          tied_ways k laws voters modules row links vs rs (in_order_kept (λ a b. a < b) (λ v. tied ls xs (Voter h) (Voter v)) xs rises) h
          (among_kept (λ v. tied ls xs (Voter h) (Voter v)) xs h ∙ and_from _ _ (joined_itself (map edge links) (Voter h)) here) within chained
          ∙ (λ i. k.plus (k.plus (alone A i) (alone B i)) (alone C i))

    pub combination_ways : ways k voters modules row three xs ms unmarked
        ≡ k.times (product k (λ h. group_weight k voters modules (group ls xs ms h)) (heads ls xs)) (product k (λ m. modules m whole) (unfed ls xs ms))
    combination_ways =
        split_classes k laws voters modules row three (λ h v. tied ls xs (Voter h) (Voter v)) (λ h m. tied ls xs (Voter h) (Module m)) (heads ls xs) xs ms unmarked (classes ls xs rises)
        ∙ ap₂ k.times
        (fold_same_on (products k laws) class (λ h. group_weight k voters modules (group ls xs ms h)) (heads ls xs)
        (All-weaker (λ h. among xs h ≡ true) (λ h. class h ≡ group_weight k voters modules (group ls xs ms h)) group_ways (heads ls xs) (heads_among ls xs)))
        (ap (product k (λ m. modules m whole)) (no_group_unfed ls xs ms))
      where
        class : ℕ → k.Value
        class h = ways k voters modules row three (filter (λ v. tied ls xs (Voter h) (Voter v)) xs) (filter (λ m. tied ls xs (Voter h) (Module m)) ms) unmarked

  pub cell_ways : (vs ms : List ℕ) → Rising vs → Closed ls vs ms → ways k voters modules row states vs ms unmarked ≡ cell_weight k voters modules ls (vs, ms)
  unfolding cell_weight
  cell_ways vs ms rises closed =
      choices k laws voters modules row vs ms unmarked
      ∙ fold_same (sums k laws) (chosen k voters modules row vs ms unmarked) (λ j. combination_weight k voters modules ls (vs, ms) (combination vs j)) (range_with_len 0 (2 ^ length vs)) each
    where
      inside : (j v : ℕ) → among (combination vs j) v ≡ true → among vs v ≡ true
      inside j v = among_all (λ u. among vs u ≡ true) (combination vs j) v (all_combination (λ u. among vs u ≡ true) vs j (all_among (λ u. among vs u ≡ true) vs (λ u e. e)))

      each : (j : ℕ) → chosen k voters modules row vs ms unmarked j ≡ combination_weight k voters modules ls (vs, ms) (combination vs j)
      each j =
          ap₂ (λ us w. k.times (product k (λ v. voters v whole) us) w) (rest_left_out vs j rises)
          (combination_ways (combination vs j) ms (rising_combination vs j rises) (λ v m here st. closed v m (inside j v here) st))
          ∙ sym (laws.times_assoc _ _ _)

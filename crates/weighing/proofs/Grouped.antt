-- The groups of a combination, found one after the other.
use Rattle.std.proofs.Common.{◌≡◌, ℕ, ◌+◌, ◌<◌, ◌≤◌, Bool, true, false, not, ◌&&◌, eqb, ltb, List, length, map, filter, sym, refl, ap, ◌∙◌, subst, ⊎_elim, arith}
use Rattle.std.specs.List.{range_with_len}
use Rattle.std.proofs.Math.Bool.{and-true}
use Rattle.std.proofs.lemmas.Bool.{and_from, and_parts, and_right, both_ways, cases_eq, cases_lt, eq-eqb, eqb-true, false_from_ne_true, lt-ltb, ltb-true, not-true, true_from_ne_false}
use Rattle.method.specs.Groups.{among, group, heads, left_out, links_of, tied, unfed}
use Rattle.method.proofs.Lists.{kept_twice, same_test}
use Rattle.network.specs.Cells.{Members, edge}
use Rattle.network.specs.Chains.{Chain, none, more, ends_at, joined}
use Rattle.network.specs.Networks.{Link, stands}
use Rattle.network.specs.declared.Trio.{Trio}
use Rattle.network.specs.declared.Trio.TheVariants.{Voter, Module}
use Rattle.network.proofs.Chains.{chain_from_joined, joined_itself, joined_on}
use Rattle.network.proofs.Inside.{step_link}
use Rattle.sets.specs.Lists.{any}
use Rattle.sets.specs.Sets.{member, members}
use Rattle.sets.specs.declared.TrioSet.{TrioSet}
use Rattle.sets.proofs.Kept.{any_below_from, any_below_true, any_kept, kept_same}
use Rattle.sets.proofs.Members.{full_subset, member_below}
use Rattle.wiring.specs.CellSets.{holds, in_range}
use Rattle.wiring.specs.Wires.{edge_list, fed_by_some, feeds, link_list}
use Rattle.wiring.specs.declared.cell.Cell.{Cell}
use Rattle.wiring.specs.declared.links.Links.{Links}
use Rattle.wiring.proofs.Rows.{stands_kept, stands_list}

pub among_member : (s : TrioSet) (v : ℕ) → among (members s) v ≡ member s v
unfolding members
among_member s v = any_kept (eqb v) (member s) (range_with_len 0 16) ∙ same_test _ _
    (λ h. let k = any_below_true (λ x. member s x && eqb v x) 16 h in
    let both = and_parts (member s k.0) (eqb v k.0) k.2 in
    ap (member s) (eqb-true v k.0 both.1) ∙ both.0)
    (λ h. any_below_from (λ x. member s x && eqb v x) 16 v (member_below s v h) (and_from _ _ h (eq-eqb v v refl)))

-- the voters of a cell that are not in a combination
pub members_left : (cell chosen rest : TrioSet) → ((k : ℕ) → member rest k ≡ (member cell k && not (member chosen k))) → members rest ≡ left_out (members chosen) (members cell)
unfolding left_out members
members_left cell chosen rest is =
    kept_same (member rest) (λ k. member cell k && not (among (members chosen) k)) (range_with_len 0 16) (λ k. is k ∙ ap (λ b. member cell k && not b) (sym (among_member chosen k)))
    ∙ sym (kept_twice (λ k. not (among (members chosen) k)) (member cell) (range_with_len 0 16))

module _ (ls : Links) (chosen : TrioSet) where
  abbrev joins : Trio → Trio → Bool
  joins t u = tied (link_list ls) (members chosen) t u

  -- the links of the combination
  pub own_links : (own : Links) → link_list own ≡ filter (λ l. member chosen l.0) (link_list ls) → link_list own ≡ links_of (members chosen) (link_list ls)
  unfolding links_of
  own_links own is = is ∙ kept_same (λ l. member chosen l.0) (λ l. among (members chosen) l.0) (link_list ls) (λ l. sym (among_member chosen l.0))

  -- a chain of them leads to voters of the combination only
  Chosen : Trio → Type 0
  Chosen (Voter v) = member chosen v ≡ true
  Chosen (Module m) = true ≡ true

  step_chosen : (t u : Trio) → any (ends_at t u) (map edge (links_of (members chosen) (link_list ls))) ≡ true → Chosen u
  unfolding Chosen links_of
  step_chosen t u b =
      let s = step_link (links_of (members chosen) (link_list ls)) t u b in
      let both = and_parts (stands (link_list ls) s.0) (among (members chosen) s.0.0) (sym (stands_kept (λ l. among (members chosen) l.0) s.0 (link_list ls)) ∙ s.1) in
      ⊎_elim
      (λ e. subst Chosen (sym e.1) refl)
      (λ e. subst Chosen (sym e.1) (sym (among_member chosen s.0.0) ∙ both.1))
      s.2

  chain_chosen : (t u : Trio) → Chain (map edge (links_of (members chosen) (link_list ls))) t u → Chosen t → Chosen u
  chain_chosen t u (none) h = h
  chain_chosen t u (more {u = x} b c) h = chain_chosen x u c (step_chosen t x b)

  stays_inside : (v u : ℕ) → member chosen v ≡ true → joins (Voter v) (Voter u) ≡ true → member chosen u ≡ true
  unfolding Chosen
  stays_inside v u there h = chain_chosen (Voter v) (Voter u) (chain_from_joined (map edge (links_of (members chosen) (link_list ls))) (Voter v) (Voter u) h) there

  -- a voter of the combination below v is tied to k
  abbrev pub earlier_tied : ℕ → ℕ → Bool
  earlier_tied v k = any (λ u. ltb u v && joins (Voter u) (Voter k)) (members chosen)

  TiedBelow : ℕ → ℕ → Type 0
  TiedBelow v k = (u : ℕ) × (member chosen u ≡ true) × (u < v) × (joins (Voter u) (Voter k) ≡ true)

  tied_below : (v k : ℕ) → earlier_tied v k ≡ true → TiedBelow v k
  unfolding members TiedBelow
  tied_below v k h =
      let p = any_below_true (λ u. member chosen u && (ltb u v && joins (Voter u) (Voter k))) 16 (sym (any_kept (λ u. ltb u v && joins (Voter u) (Voter k)) (member chosen) (range_with_len 0 16)) ∙ h) in
      let both = and_parts (member chosen p.0) (ltb p.0 v && joins (Voter p.0) (Voter k)) p.2 in
      let last = and_parts (ltb p.0 v) (joins (Voter p.0) (Voter k)) both.1 in
      (p.0, both.0, ltb-true p.0 v last.0, last.1)

  from_below : (v k : ℕ) → TiedBelow v k → earlier_tied v k ≡ true
  unfolding members TiedBelow
  from_below v k t =
      any_kept (λ u. ltb u v && joins (Voter u) (Voter k)) (member chosen) (range_with_len 0 16)
      ∙ any_below_from (λ u. member chosen u && (ltb u v && joins (Voter u) (Voter k))) 16 t.0 (member_below chosen t.0 t.1) (and_from _ _ t.1 (and_from _ _ (lt-ltb t.0 v t.2) t.3))

  -- v is in the combination, and the first of its group
  abbrev pub head : ℕ → Bool
  head v = member chosen v && not (earlier_tied v v)

  pub heads_are : heads (link_list ls) (members chosen) ≡ filter head (range_with_len 0 16)
  unfolding heads members
  heads_are = kept_twice (λ v. not (earlier_tied v v)) (member chosen) (range_with_len 0 16)

  -- those of the combination that are in no group found below v
  abbrev pub Ungrouped : TrioSet → ℕ → Type 0
  Ungrouped left v = (k : ℕ) → member left k ≡ (member chosen k && not (earlier_tied v k))

  pub ungrouped_start : Ungrouped chosen 0
  unfolding TiedBelow
  ungrouped_start k = sym (ap (λ b. member chosen k && not b) (false_from_ne_true (earlier_tied 0 k) (λ h. let t = tied_below 0 k h in omega (arith, t.2))) ∙ and-true (member chosen k))

  module _ (v : ℕ) (left : TrioSet) (so_far : Ungrouped left v) where
    -- v is left exactly where it is the first of a group
    pub left_head : member left v ≡ head v
    left_head = so_far v

    -- no voter below v is left
    pub left_late : (k : ℕ) → member left k ≡ true → v ≤ k
    unfolding TiedBelow
    left_late k there = ⊎_elim
        (λ early. let both = and_parts (member chosen k) (not (earlier_tied v k)) (sym (so_far k) ∙ there) in
        absurd (both_ways (earlier_tied v k) (not-true (earlier_tied v k) both.1) (from_below v k (k, both.0, early, joined_itself (map edge (links_of (members chosen) (link_list ls))) (Voter k)))))
        (λ late. late)
        (cases_lt k v)

    -- v's group is found
    pub ungrouped_less : (rest group : TrioSet) → member left v ≡ true → ((k : ℕ) → member group k ≡ (ltb k 16 && joins (Voter v) (Voter k))) → ((k : ℕ) → member rest k ≡ (member left k && not (member group k))) → Ungrouped rest (v + 1)
    unfolding TiedBelow
    ungrouped_less rest group there found less k =
        less k ∙ (λ i. so_far k i && not (found k i)) ∙ same_test _ _ on back
      where
        v_chosen : member chosen v ≡ true
        v_chosen = (and_parts (member chosen v) (not (earlier_tied v v)) (sym (so_far v) ∙ there)).0

        on : ((member chosen k && not (earlier_tied v k)) && not (ltb k 16 && joins (Voter v) (Voter k))) ≡ true → (member chosen k && not (earlier_tied (v + 1) k)) ≡ true
        on h =
            let both = and_parts (member chosen k && not (earlier_tied v k)) (not (ltb k 16 && joins (Voter v) (Voter k))) h in
            let first = and_parts (member chosen k) (not (earlier_tied v k)) both.0 in
            let apart = false_from_ne_true (joins (Voter v) (Voter k)) (λ t. both_ways (ltb k 16 && joins (Voter v) (Voter k)) (not-true (ltb k 16 && joins (Voter v) (Voter k)) both.1) (and_from (ltb k 16) (joins (Voter v) (Voter k)) (lt-ltb k 16 (member_below chosen k first.0)) t)) in
            and_from (member chosen k) (not (earlier_tied (v + 1) k)) first.0 (ap not (false_from_ne_true (earlier_tied (v + 1) k) (λ t. let b = tied_below (v + 1) k t in ⊎_elim
            (λ e. both_ways (joins (Voter v) (Voter k)) apart (ap (λ x. joins (Voter x) (Voter k)) (sym e) ∙ b.3))
            (λ ne. both_ways (earlier_tied v k) (not-true (earlier_tied v k) first.1) (from_below v k (b.0, b.1, omega (arith, b.2, ne), b.3)))
            (cases_eq b.0 v))))

        back : (member chosen k && not (earlier_tied (v + 1) k)) ≡ true → ((member chosen k && not (earlier_tied v k)) && not (ltb k 16 && joins (Voter v) (Voter k))) ≡ true
        back h =
            let both = and_parts (member chosen k) (not (earlier_tied (v + 1) k)) h in
            let no = not-true (earlier_tied (v + 1) k) both.1 in
            and_from (member chosen k && not (earlier_tied v k)) (not (ltb k 16 && joins (Voter v) (Voter k)))
            (and_from (member chosen k) (not (earlier_tied v k)) both.0 (ap not (false_from_ne_true (earlier_tied v k) (λ t. let b = tied_below v k t in both_ways (earlier_tied (v + 1) k) no (from_below (v + 1) k (b.0, b.1, omega (arith, b.2), b.3))))))
            (ap not (and_right (ltb k 16) (joins (Voter v) (Voter k)) (false_from_ne_true (joins (Voter v) (Voter k)) (λ t. both_ways (earlier_tied (v + 1) k) no (from_below (v + 1) k (v, v_chosen, omega arith, t))))))

    -- v is not in the combination, or in a group found already
    pub ungrouped_same : member left v ≡ false → Ungrouped left (v + 1)
    unfolding TiedBelow
    ungrouped_same gone k = so_far k ∙ ap (λ b. member chosen k && not b) (same_test _ _ on back)
      where
        on : earlier_tied v k ≡ true → earlier_tied (v + 1) k ≡ true
        on h = let b = tied_below v k h in from_below (v + 1) k (b.0, b.1, omega (arith, b.2), b.3)

        through : member chosen v ≡ true → joins (Voter v) (Voter k) ≡ true → earlier_tied v k ≡ true
        through there h =
            let tied_already = true_from_ne_false (earlier_tied v v) (λ f. both_ways (head v) (sym (so_far v) ∙ gone) (and_from (member chosen v) (not (earlier_tied v v)) there (ap not f))) in
            let b = tied_below v v tied_already in
            from_below v k (b.0, b.1, b.2, joined_on (map edge (links_of (members chosen) (link_list ls))) (Voter b.0) (Voter v) (Voter k) b.3 h)

        back : earlier_tied (v + 1) k ≡ true → earlier_tied v k ≡ true
        back h =
            let b = tied_below (v + 1) k h in
            ⊎_elim
            (λ e. through (ap (member chosen) (sym e) ∙ b.1) (ap (λ x. joins (Voter x) (Voter k)) (sym e) ∙ b.3))
            (λ ne. from_below v k (b.0, b.1, omega (arith, b.2, ne), b.3))
            (cases_eq b.0 v)

    -- the group that starts at v
    module _ (own : Links) (found : Cell) (modules fed : TrioSet) (there : member left v ≡ true)
        (own_is : link_list own ≡ filter (λ l. member chosen l.0) (link_list ls))
        (around : (u : Trio) → holds found u ≡ (in_range u && joined (edge_list own) (Voter v) u))
        (feeds_is : (m : ℕ) → member fed m ≡ (member found.modules m && member modules m)) where
      around_tied : (u : Trio) → holds found u ≡ (in_range u && joins (Voter v) u)
      around_tied u = around u ∙ ap (λ (x : List Link). in_range u && joined (map edge x) (Voter v) u) (own_links own own_is)

      pub found_voters : (k : ℕ) → member found.voters k ≡ (ltb k 16 && joins (Voter v) (Voter k))
      found_voters k = around_tied (Voter k)

      v_there : member chosen v ≡ true
      v_there = (and_parts (member chosen v) (not (earlier_tied v v)) (sym (so_far v) ∙ there)).0

      -- only voters of the combination are in it
      pub found_inside : (k : ℕ) → member found.voters k ≡ true → member chosen k ≡ true
      found_inside k h = stays_inside v k v_there (and_parts (ltb k 16) (joins (Voter v) (Voter k)) (sym (found_voters k) ∙ h)).1

      voters_are : members found.voters ≡ filter (λ u. joins (Voter v) (Voter u)) (members chosen)
      unfolding members
      voters_are =
          kept_same (member found.voters) (λ u. member chosen u && joins (Voter v) (Voter u)) (range_with_len 0 16) (λ u. found_voters u ∙ same_test _ _
          (λ h. let both = and_parts (ltb u 16) (joins (Voter v) (Voter u)) h in and_from (member chosen u) (joins (Voter v) (Voter u)) (stays_inside v u v_there both.1) both.1)
          (λ h. let both = and_parts (member chosen u) (joins (Voter v) (Voter u)) h in and_from (ltb u 16) (joins (Voter v) (Voter u)) (lt-ltb u 16 (member_below chosen u both.0)) both.1))
          ∙ sym (kept_twice (λ u. joins (Voter v) (Voter u)) (member chosen) (range_with_len 0 16))

      fed_are : members fed ≡ filter (λ m. joins (Voter v) (Module m)) (members modules)
      unfolding members
      fed_are =
          kept_same (member fed) (λ m. member modules m && joins (Voter v) (Module m)) (range_with_len 0 16) (λ m. feeds_is m ∙ ap (λ b. b && member modules m) (around_tied (Module m)) ∙ same_test _ _
          (λ h. let both = and_parts (ltb m 16 && joins (Voter v) (Module m)) (member modules m) h in and_from (member modules m) (joins (Voter v) (Module m)) both.1 (and_parts (ltb m 16) (joins (Voter v) (Module m)) both.0).1)
          (λ h. let both = and_parts (member modules m) (joins (Voter v) (Module m)) h in and_from (ltb m 16 && joins (Voter v) (Module m)) (member modules m) (and_from (ltb m 16) (joins (Voter v) (Module m)) (lt-ltb m 16 (member_below modules m both.0)) both.1) both.0))
          ∙ sym (kept_twice (λ m. joins (Voter v) (Module m)) (member modules) (range_with_len 0 16))

      pub group_is : ◌≡◌ {A = Members} (members found.voters, members fed) (group (link_list ls) (members chosen) (members modules) v)
      unfolding group
      group_is = λ i. (voters_are i, fed_are i)

  -- the modules that the combination does not feed
  pub members_unfed : (modules fed rest : TrioSet) → ((m : ℕ) → member fed m ≡ fed_by_some ls chosen m) → ((m : ℕ) → member rest m ≡ (member modules m && not (member fed m))) → members rest ≡ unfed (link_list ls) (members chosen) (members modules)
  unfolding unfed members fed_by_some
  members_unfed modules fed rest is less =
      kept_same (member rest) (λ m. member modules m && not (any (λ v. stands (link_list ls) (v, m)) (members chosen))) (range_with_len 0 16) (λ m. less m ∙ ap (λ b. member modules m && not b) (is m ∙ same m))
      ∙ sym (kept_twice (λ m. not (any (λ v. stands (link_list ls) (v, m)) (members chosen))) (member modules) (range_with_len 0 16))
    where
      same : (m : ℕ) → any (λ v. member chosen v && feeds ls v m) (range_with_len 0 16) ≡ any (λ v. stands (link_list ls) (v, m)) (members chosen)
      same m = (λ i. any (λ v. member chosen v && sym (stands_list ls (v, m)) i) (range_with_len 0 16)) ∙ sym (any_kept (λ v. stands (link_list ls) (v, m)) (member chosen) (range_with_len 0 16))

-- what is left of a set without a group that has one of its members is smaller
pub fewer : (left group rest : TrioSet) (v : ℕ) → member left v ≡ true → member group v ≡ true → ((k : ℕ) → member rest k ≡ (member left k && not (member group k))) → length (members rest) < length (members left)
fewer left group rest v there found less = ⊎_elim
    (λ h. h)
    (λ full. absurd (both_ways (member rest v) (less v ∙ (λ i. there i && not (found i))) (full_subset rest left sub full v there)))
    (cases_lt (length (members rest)) (length (members left)))
  where
    sub : (k : ℕ) → member rest k ≡ true → member left k ≡ true
    sub k h = (and_parts (member left k) (not (member group k)) (sym (less k) ∙ h)).0

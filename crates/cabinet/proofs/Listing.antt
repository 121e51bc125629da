-- The cells that start at their trios, one after another, are the cells of the network.
use Rattle.std.proofs.Common.{◌≡◌, ℕ, suc, ◌+◌, ◌<◌, ◌≤◌, Bool, true, false, cond, not, ◌&&◌, List, [], ◌∷◌, ◌++◌, map, length, get_or, take, is_some, ltb, Some, None, Ok, filter, Option, sym, refl, ap, ◌∙◌, subst, ap₂, ⊎_elim, arith}
use Rattle.std.specs.Borrow.{Bor}
use Rattle.std.specs.List.{position, position_or_len}
use Rattle.std.specs.Option.{IfSome, ok_or, option_copied, unwrap_or}
use Rattle.std.specs.Result.{result_map_both}
use Rattle.std.proofs.lemmas.List.Elements.{filter_more}
use Rattle.std.proofs.lemmas.List.{append-nil, get_or-map, length-map, map-append, take_all}
use Rattle.std.proofs.lemmas.Bool.{and_from, and_parts, both_ways, cases_Bool, cases_lt, cases_order, cond-false, cond-true, eq-eqb, le-leb, le-ltb, lt-leb, lt-ltb, ltb-false, ltb-true, ne_eqb}
use Rattle.network.specs.Cells.{Members, all_cells, cell_at, cell_count, cell_of, cells, edges, leads, members_with, modules_with, place, precedes, together, voters_with}
use Rattle.network.specs.Limits.{inside}
use Rattle.network.specs.Networks.{Network, module_count, present, trios, voter_count}
use Rattle.network.specs.Questions.{cell_answer, no_cell}
use Rattle.network.specs.declared.Trio.{Trio}
use Rattle.network.specs.declared.Trio.TheVariants.{Voter, Module}
use Rattle.network.proofs.Chains.{joined_both, joined_itself}
use Rattle.network.proofs.Dues.{answers_refusal, answers_value, hit, miss}
use Rattle.network.proofs.Leads.{leads_from, leads_not}
use Rattle.refusals.specs.declared.Refusal.TheVariants.{NoCell}
use Rattle.sets.specs.Lists.{all, first_of}
use Rattle.sets.specs.Sets.{member, members}
use Rattle.sets.proofs.Members.{first_least, first_none, member_listed}
use Rattle.wiring.specs.CellSets.{holds, in_range, is_just, shown, starts_at}
use Rattle.wiring.specs.declared.cell.Cell.{Cell}
use Rattle.cabinet.specs.CellLists.{shown_list}
use Rattle.cabinet.proofs.CellsOf.{Around, together_present}

module _ (n : Network) (t : Trio) (cell : Cell) (ins : all (inside n) n.links ≡ true) (few_voters : voter_count n ≤ 16) (few_modules : module_count n ≤ 15) (here : present n t ≡ true) (around : Around n t cell) where
  -- what is held is joined to t, and the other way round for the trios of the network
  held_joined : (u : Trio) → holds cell u ≡ true → together n t u ≡ true
  held_joined u h = (and_parts (in_range u) (together n t u) (sym (around u) ∙ h)).1

  room : (u : Trio) → present n u ≡ true → in_range u ≡ true
  room (Voter v) p = lt-ltb v 16 (omega (arith, ltb-true v (voter_count n) p))
  room (Module m) p = lt-ltb m 16 (omega (arith, ltb-true m (module_count n) p))

  joined_held : (u : Trio) → together n t u ≡ true → holds cell u ≡ true
  joined_held u j = around u ∙ and_from _ _ (room u (together_present n t u ins here j)) j

  held_itself : holds cell t ≡ true
  held_itself = joined_held t (joined_itself _ t)

  not_joined : (u : Trio) → holds cell u ≡ false → together n t u ≡ false
  not_joined u h = ⊎_elim (λ j. absurd (both_ways (holds cell u) h (joined_held u j))) (λ j. j) (cases_Bool (together n t u))

  not_leading : (u : Trio) → holds cell u ≡ true → precedes u t ≡ true → leads n t ≡ false
  not_leading u h before = leads_not n t u (together_present n t u ins here (held_joined u h)) before (held_joined u h)

  starts_voter : (v : ℕ) → t ≡ Voter v → is_just (first_of (members cell.voters)) v ≡ leads n t
  starts_voter v is = by (first_of (members cell.voters)) refl
    where
      mine : member cell.voters v ≡ true
      mine = let P : Trio → Type 0 = λ x. holds cell x ≡ true in subst P is held_itself

      first_here : (j : ℕ) → v ≡ j → ((k : ℕ) → k < j → member cell.voters k ≡ false) → leads n t ≡ true
      first_here j e least = leads_from n t (λ u p before. earlier u (let P : Trio → Type 0 = λ x. precedes u x ≡ true in subst P is before))
        where
          earlier : (u : Trio) → precedes u (Voter v) ≡ true → together n t u ≡ false
          earlier (Voter k) before = not_joined (Voter k) (least k (omega (arith, ltb-true k v before)))
          earlier (Module m) before = absurd (both_ways _ refl before)

      by : (o : Option ℕ) → first_of (members cell.voters) ≡ o → is_just o v ≡ leads n t
      by None e = absurd (both_ways _ (first_none cell.voters e v) mine)
      by (Some j) e =
          let least = first_least cell.voters j e in
          ⊎_elim
          (λ s. eq-eqb v j s ∙ sym (first_here j s least.2))
          (⊎_elim
          (λ lt. absurd (both_ways _ (least.2 v lt) mine))
          (λ gt. let P : Trio → Type 0 = λ x. precedes (Voter j) x ≡ true in
          ne_eqb v j (omega arith) ∙ sym (not_leading (Voter j) least.0 (subst P (sym is) (lt-ltb j v gt)))))
          (cases_order v j)

  starts_module : (m : ℕ) → t ≡ Module m → (not (is_some (first_of (members cell.voters))) && is_just (first_of (members cell.modules)) m) ≡ leads n t
  starts_module m is = by_voters (first_of (members cell.voters)) refl
    where
      mine : member cell.modules m ≡ true
      mine = let P : Trio → Type 0 = λ x. holds cell x ≡ true in subst P is held_itself

      before_me : (u : Trio) → precedes u (Module m) ≡ true → precedes u t ≡ true
      before_me u b = let P : Trio → Type 0 = λ x. precedes u x ≡ true in subst P (sym is) b

      first_here : (j : ℕ) → m ≡ j → ((k : ℕ) → member cell.voters k ≡ false) → ((k : ℕ) → k < j → member cell.modules k ≡ false) → leads n t ≡ true
      first_here j e none least = leads_from n t (λ u p before. earlier u (let P : Trio → Type 0 = λ x. precedes u x ≡ true in subst P is before))
        where
          earlier : (u : Trio) → precedes u (Module m) ≡ true → together n t u ≡ false
          earlier (Voter k) before = not_joined (Voter k) (none k)
          earlier (Module k) before = not_joined (Module k) (least k (omega (arith, ltb-true k m before)))

      by_modules : ((k : ℕ) → member cell.voters k ≡ false) → (o : Option ℕ) → first_of (members cell.modules) ≡ o → is_just o m ≡ leads n t
      by_modules none None e = absurd (both_ways _ (first_none cell.modules e m) mine)
      by_modules none (Some j) e =
          let least = first_least cell.modules j e in
          ⊎_elim
          (λ s. eq-eqb m j s ∙ sym (first_here j s none least.2))
          (⊎_elim
          (λ lt. absurd (both_ways _ (least.2 m lt) mine))
          (λ gt. ne_eqb m j (omega arith) ∙ sym (not_leading (Module j) least.0 (before_me (Module j) (lt-ltb j m gt)))))
          (cases_order m j)

      by_voters : (o : Option ℕ) → first_of (members cell.voters) ≡ o → (not (is_some o) && is_just (first_of (members cell.modules)) m) ≡ leads n t
      by_voters None e = by_modules (first_none cell.voters e) (first_of (members cell.modules)) refl
      by_voters (Some v) e = sym (not_leading (Voter v) (first_least cell.voters v e).0 (before_me (Voter v) refl))

  pub starts_leads : starts_at cell t ≡ leads n t
  starts_leads = at t refl
    where
      at : (u : Trio) → t ≡ u → starts_at cell u ≡ leads n t
      at (Voter v) is = starts_voter v is
      at (Module m) is = starts_module m is

-- ---- the list of cells, one trio further

abbrev pub cells_so_far : Network → ℕ → List Members
cells_so_far n k = map (members_with n) (filter (leads n) (take k (trios n)))

module _ (n : Network) (k : ℕ) (within : k < length (trios n)) where
  pub one_more_cell : (cs ds : List Cell) (cell : Cell) → shown_list cs ≡ cells_so_far n k → ds ≡ cs ++ (cell ∷ []) → shown cell ≡ members_with n (get_or (trios n) k (Voter 0)) → leads n (get_or (trios n) k (Voter 0)) ≡ true → shown_list ds ≡ cells_so_far n (k + 1)
  one_more_cell cs ds cell so_far is same first =
      let t = get_or (trios n) k (Voter 0) in
      let kept : filter (leads n) (take (k + 1) (trios n)) ≡ filter (leads n) (take k (trios n)) ++ (t ∷ []) =
      filter_more (leads n) (trios n) k (Voter 0) within ∙ ap (λ (l : List Trio). filter (leads n) (take k (trios n)) ++ l) (cond-true (leads n t) (t ∷ []) [] first) in
      ap (map shown) is ∙ map-append shown cs (cell ∷ []) ∙ ap₂ (λ (a : List Members) (b : Members). a ++ (b ∷ [])) so_far same
      ∙ sym (ap (map (members_with n)) kept ∙ map-append (members_with n) (filter (leads n) (take k (trios n))) (t ∷ []))

  pub no_more_cell : (cs : List Cell) → shown_list cs ≡ cells_so_far n k → leads n (get_or (trios n) k (Voter 0)) ≡ false → shown_list cs ≡ cells_so_far n (k + 1)
  no_more_cell cs so_far later =
      let t = get_or (trios n) k (Voter 0) in
      let kept : filter (leads n) (take (k + 1) (trios n)) ≡ filter (leads n) (take k (trios n)) =
      filter_more (leads n) (trios n) k (Voter 0) within ∙ ap (λ (l : List Trio). filter (leads n) (take k (trios n)) ++ l) (cond-false (leads n t) (t ∷ []) [] later) ∙ append-nil (filter (leads n) (take k (trios n))) in
      so_far ∙ sym (ap (map (members_with n)) kept)

pub all_listed : (n : Network) (k : ℕ) → length (trios n) ≤ k → cells_so_far n k ≡ all_cells n
unfolding all_cells cells
all_listed n k past = ap (λ (ts : List Trio). map (members_with n) (filter (leads n) ts)) (take_all k (trios n) past)

-- ---- what the list of cells answers

pub count_listed : (n : Network) (cs : List Cell) → shown_list cs ≡ all_cells n → length cs ≡ cell_count n
unfolding all_cells
count_listed n cs is = sym (length-map cs shown) ∙ ap length is ∙ length-map (cells n) (members_with n)

pub cell_listed : (n : Network) (cs : List Cell) (i : ℕ) (d : Cell) → shown_list cs ≡ all_cells n → i < length cs → shown (get_or cs i d) ≡ cell_at n i
cell_listed n cs i d is within = sym (get_or-map shown cs i d ([], []) within) ∙ ap (λ (l : List Members). get_or l i ([], [])) is

-- a cell that is shown as that of u holds t where t is joined to u
holds_together : (n : Network) (t u : Trio) (cell : Cell) → voter_count n ≤ 16 → module_count n ≤ 15 → present n t ≡ true → shown cell ≡ members_with n u → holds cell t ≡ together n t u
unfolding voters_with modules_with
holds_together n (Voter v) u cell few_voters few_modules here same =
    member_listed cell.voters (λ k. together n u (Voter k)) (voter_count n) v few_voters (ltb-true v (voter_count n) here) (ap (λ (m : Members). m.0) same) ∙ joined_both (edges n) u (Voter v)
holds_together n (Module m) u cell few_voters few_modules here same =
    member_listed cell.modules (λ k. together n u (Module k)) (module_count n) m (omega arith) (ltb-true m (module_count n) here) (ap (λ (m : Members). m.1) same) ∙ joined_both (edges n) u (Module m)

module _ (n : Network) (t : Trio) (few_voters : voter_count n ≤ 16) (few_modules : module_count n ≤ 15) (here : present n t ≡ true) where
  place_shown : (cs : List Cell) (us : List Trio) → map shown cs ≡ map (members_with n) us → place (λ c. holds c t) cs ≡ place (together n t) us
  place_shown [] [] same = refl
  place_shown [] (u ∷ us) same = absurd (let z : ◌≡◌ {A = ℕ} 0 1 = cc in omega arith)
  place_shown (c ∷ cs) [] same = absurd (let z : ◌≡◌ {A = ℕ} 0 1 = cc in omega arith)
  place_shown (c ∷ cs) (u ∷ us) same =
      let head : shown c ≡ members_with n u = cc in
      let tail : map shown cs ≡ map (members_with n) us = cc in
      ap₂ (λ (b : Bool) (k : ℕ). cond b 0 (suc k)) (holds_together n t u c few_voters few_modules here head) (place_shown cs us tail)

  pub place_listed : (cs : List Cell) → shown_list cs ≡ all_cells n → place (λ c. holds c t) cs ≡ cell_of n t
  unfolding all_cells cell_of
  place_listed cs is = place_shown cs (cells n) is

-- the first place that the library finds, or the length where it finds none
pub place_found : {X : Type 0} (test : X → Bool) (xs : List X) → unwrap_or (position test xs) (length xs) ≡ place test xs
place_found {X} test xs = ⊎_elim
    (λ lt. ap (λ b. unwrap_or (cond b (Some (position_or_len test xs)) None) (length xs)) (lt-ltb (position_or_len test xs) (length xs) lt) ∙ same xs)
    (λ le. ap (λ b. unwrap_or (cond b (Some (position_or_len test xs)) None) (length xs)) (le-ltb (position_or_len test xs) (length xs) le) ∙ omega (arith, same xs, place_le xs))
    (cases_lt (position_or_len test xs) (length xs))
  where
    place_le : (ys : List X) → place test ys ≤ length ys
    place_le [] = omega arith
    place_le (y ∷ ys) = one (test y) (place_le ys)
      where
        one : (b : Bool) → place test ys ≤ length ys → cond b 0 (suc (place test ys)) ≤ suc (length ys)
        one true h = omega arith
        one false h = omega arith

    same : (ys : List X) → position_or_len test ys ≡ place test ys
    same [] = refl
    same (y ∷ ys) = one (test y) (same ys)
      where
        one : (b : Bool) → position_or_len test ys ≡ place test ys → cond (not b) (1 + position_or_len test ys) 0 ≡ cond b 0 (suc (place test ys))
        one true h = refl
        one false h = omega (arith, h)

-- the cell that is read at a place of the list, if there is one
pub cell_read : (n : Network) (cs : List Cell) (i : ℕ) → shown_list cs ≡ all_cells n → (r : Option (Bor Cell)) → is_some r ≡ ltb i (length cs) → IfSome r (λ x. x.now ≡ get_or cs i x.now)
    → result_map_both shown (λ e. e) (ok_or (option_copied r) NoCell) ≡ cell_answer n i
cell_read n cs i is None none at = answers_refusal _ NoCell _ (hit (no_cell i n) [] (le-leb (cell_count n) i (omega (arith, count_listed n cs is, ltb-false i (length cs) (sym none)))))
cell_read n cs i is (Some x) there at =
    let within : i < length cs = ltb-true i (length cs) (sym there) in
    ap (λ c. Ok (shown c)) at ∙ ap Ok (cell_listed n cs i x.now is within) ∙ answers_value _ _ (miss (no_cell i n) [] (lt-leb (cell_count n) i (omega (arith, count_listed n cs is, within))))

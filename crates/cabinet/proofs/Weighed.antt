-- The cells that a cabinet lists are all of its network, so weighing them is weighing the network.
use Rattle.std.proofs.Common.{◌≡◌, ℕ, ◌+◌, ◌<◌, Bool, true, not, ◌&&◌, eqb, List, [], ◌∷◌, map, length, take, drop, filter, sym, refl, ap, ◌∙◌, subst, ⊎_elim, arith, length-drop, length-take}
use Rattle.std.specs.List.{range_with_len, AllByRecursion as All}
use Rattle.std.proofs.lemmas.List.{drop-map, take-map}
use Rattle.std.proofs.lemmas.Bool.{and_parts, cases_eq, eqb-true, ne_eqb}
use Rattle.algebra.specs.Laws.{Kind, Laws}
use Rattle.algebra.specs.Sums.{product}
use Rattle.method.specs.Groups.{among}
use Rattle.method.specs.Method.{by_cells, by_cells_answer, cell_weight, module_weights, voter_weights}
use Rattle.method.proofs.Agrees.{method_agrees}
use Rattle.method.proofs.Lists.{all_each}
use Rattle.network.specs.Cells.{Members, all_cells, cells, members_with, modules_with, together, voters_with}
use Rattle.network.specs.Networks.{Network, module_count, voter_count}
use Rattle.network.specs.Limits.{within_limits}
use Rattle.network.specs.Patterns as patterns
use Rattle.network.specs.Patterns.{total}
use Rattle.network.specs.Questions.{total_answer, weights_mismatch}
use Rattle.network.proofs.Dues.{hit}
use Rattle.network.specs.declared.Trio.{Trio}
use Rattle.network.specs.declared.Trio.TheVariants.{Voter, Module}
use Rattle.refusals.specs.Refusals.{answered, first_due}
use Rattle.sets.specs.Sets.{members}
use Rattle.sets.specs.declared.TrioSet.{TrioSet}
use Rattle.sets.proofs.Kept.{any_below_true, any_kept}
use Rattle.weighing.specs.Entries.{first_members, read, read_all, shown_below}
use Rattle.weighing.specs.declared.weights.Weights.{Weights}
use Rattle.weighing.proofs.Grouped.{among_member}
use Rattle.weighing.proofs.Weighed.{first_all}
use Rattle.wiring.specs.CellSets.{shown}
use Rattle.wiring.specs.declared.cell.Cell.{Cell}

-- the numbers of a list are below n
Below : ℕ → List ℕ → Type 0
Below n xs = (i : ℕ) → among xs i ≡ true → i < n

kept_below : (test : ℕ → Bool) (n : ℕ) → Below n (filter test (range_with_len 0 n))
unfolding Below
kept_below test n i h =
    let k = any_below_true (λ x. test x && eqb i x) n (sym (any_kept (eqb i) test (range_with_len 0 n)) ∙ h) in
    let e = eqb-true i k.0 (and_parts (test k.0) (eqb i k.0) k.2).1 in
    omega (arith, e, k.1)

Inside : Network → Members → Type 0
Inside n c = Below (voter_count n) c.0 × Below (module_count n) c.1

members_inside : (n : Network) (t : Trio) → Inside n (members_with n t)
unfolding Inside voters_with modules_with
members_inside n t = (kept_below (λ v. together n t (Voter v)) (voter_count n), kept_below (λ m. together n t (Module m)) (module_count n))

module _ {X Y : Type 0} (f : X → Y) where
  to_map : (P : Y → Type 0) (xs : List X) → All (λ x. P (f x)) xs → All P (map f xs)
  to_map P [] h = tt
  to_map P (x ∷ xs) h = (h.0, to_map P xs h.1)

  from_map : (P : Y → Type 0) (xs : List X) → All P (map f xs) → All (λ x. P (f x)) xs
  from_map P [] h = tt
  from_map P (x ∷ xs) h = (h.0, from_map P xs h.1)

-- a set within the first n is shown whole
first_whole : (s : TrioSet) (n : ℕ) → Below n (members s) → first_members s n ≡ members s
unfolding Below
first_whole s n below = first_all s n (λ i h. below i (among_member s i ∙ h))

module _ (n : Network) (list : List Cell) (listed : map shown list ≡ all_cells n) where
  all_inside : All (λ c. Inside n (shown c)) list
  unfolding all_cells
  all_inside = from_map shown (Inside n) list (subst (All (Inside n)) (sym listed) (to_map (members_with n) (Inside n) (cells n) (all_each (λ t. Inside n (members_with n t)) (members_inside n) (cells n))))

  shown_whole : (v m : ℕ) → v ≡ voter_count n → m ≡ module_count n → map (shown_below v m) list ≡ all_cells n
  unfolding Inside
  shown_whole v m voters modules = (λ i. map (shown_below (voters i) (modules i)) list) ∙ by list all_inside ∙ listed
    where
      by : (cs : List Cell) → All (λ c. Inside n (shown c)) cs → map (shown_below (voter_count n) (module_count n)) cs ≡ map shown cs
      by [] h = refl
      by (c ∷ cs) h = λ i. (first_whole c.voters (voter_count n) h.0.0 i, first_whole c.modules (module_count n) h.0.1 i) ∷ by cs h.1 i

  module _ (k : Kind) {W : Type 0} (value : W → k.Value) (ws front back : List (Weights W)) where
    pub weighed_all : (x : k.Value) → length ws ≡ voter_count n + module_count n → front ≡ take (voter_count n) ws → back ≡ drop (voter_count n) ws
        → x ≡ product k (cell_weight k (voter_weights k (read_all value front)) (module_weights k (read_all value back)) n.links) (map (shown_below (length front) (length back)) list)
        → x ≡ by_cells k n (read_all value ws)
    unfolding by_cells
    weighed_all x long front_is back_is weighed =
        weighed ∙ (λ i. product k (cell_weight k (voter_weights k (sources i)) (module_weights k (places i)) n.links) (shown_whole (length front) (length back) front_long back_long i))
      where
        sources : read_all value front ≡ take (voter_count n) (read_all value ws)
        sources = ap (read_all value) front_is ∙ sym (take-map (read value) (voter_count n) ws)

        places : read_all value back ≡ drop (voter_count n) (read_all value ws)
        places = ap (read_all value) back_is ∙ sym (drop-map (read value) (voter_count n) ws)

        front_long : length front ≡ voter_count n
        front_long = ap length front_is ∙ length-take (voter_count n) ws ∙ omega (arith, long)

        back_long : length back ≡ module_count n
        back_long = ap length back_is ∙ length-drop (voter_count n) ws ∙ omega (arith, long)

-- under the laws of a scale, weighing answers the total
pub answers_total : (k : Kind) → Laws k → (n : Network) → within_limits n ≡ true → (ws : List (patterns.Weights k)) → by_cells_answer k n ws ≡ total_answer k n ws
answers_total k laws n fits ws = ⊎_elim
    (λ e. ap (answered (first_due (weights_mismatch (length ws) n ∷ []))) (method_agrees k laws n fits ws e))
    (λ ne. let due = hit (weights_mismatch (length ws) n) [] (ap not (ne_eqb (length ws) (voter_count n + module_count n) ne)) in
    ap (λ o. answered o (by_cells k n ws)) due ∙ sym (ap (λ o. answered o (total k n ws)) due))
    (cases_eq (length ws) (voter_count n + module_count n))

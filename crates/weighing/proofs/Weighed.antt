-- One combination of a cell weighed, and the sum over all of them.
use Rattle.std.proofs.Common.{◌≡◌, ℕ, zero, suc, ◌+◌, ◌-◌, ◌*◌, ◌%◌, ◌^◌, ◌<◌, ◌≤◌, true, false, not, ◌&&◌, ltb, List, [], ◌∷◌, ◌++◌, map, length, get_or, take, filter, sym, ap, ◌∙◌, subst, ⊎_elim, append-nil, mod-eq_of_lt, arith}
use mathlib.Core.List.{map-append}
use native.Mathlib.Nat.{pow-le-pow_right}
use Rattle.std.specs.List.{range_with_len}
use Rattle.std.proofs.Math.Bool.{and-true}
use Rattle.std.proofs.lemmas.List.Elements.{filter-append}
use Rattle.std.proofs.lemmas.List.{take_more}
use Rattle.std.proofs.lemmas.Bool.{and_parts, cases_lt, false_from_ne_true, lt-ltb, ltb-true}
use Rattle.algebra.specs.Laws.{Kind}
use Rattle.algebra.specs.Sums.{product, sum}
use Rattle.algebra.proofs.Steps.{product_append, sum_next}
use Rattle.method.specs.Groups.{combination, group, heads, left_out, unfed}
use Rattle.method.specs.Method.{cell_weight, combination_weight, group_weight, module_weights, voter_weights}
use Rattle.network.specs.Cells.{Members}
use Rattle.network.specs.Patterns.{whole}
use Rattle.sets.specs.Sets.{member, members}
use Rattle.sets.specs.declared.TrioSet.{TrioSet}
use Rattle.sets.proofs.Kept.{counting_split, kept_agree, kept_none}
use Rattle.sets.proofs.Members.{len_bound, member_past, members_below}
use Rattle.wiring.specs.Wires.{fed_by_some, link_list}
use Rattle.wiring.specs.declared.cell.Cell.{Cell}
use Rattle.wiring.specs.declared.links.Links.{Links}
use Rattle.weighing.specs.Entries.{first_members, read_all, shown_below}
use Rattle.weighing.specs.declared.weights.Weights.{Weights}
use Rattle.weighing.proofs.Gathered.{product_below, product_with, product_without}
use Rattle.weighing.proofs.Grouped.{Ungrouped, head, heads_are, left_head, members_left, members_unfed, ungrouped_same}

-- n entries reach all of a set
abbrev pub Reaches : ℕ → TrioSet → Type 0
Reaches n s = (i : ℕ) → member s i ≡ true → i < n

-- where they do, the members below n are all
pub first_all : (s : TrioSet) (n : ℕ) → Reaches n s → first_members s n ≡ members s
unfolding first_members members
first_all s n reaches = ⊎_elim (λ h. sym (members_below s n (omega (arith, h)) gone)) far (cases_lt n 16)
  where
    gone : (k : ℕ) → n ≤ k → member s k ≡ false
    gone k past = false_from_ne_true (member s k) (λ h. omega (arith, reaches k h))

    far : 16 ≤ n → filter (member s) (range_with_len 0 n) ≡ members s
    far h =
        let e : n ≡ 16 + (n - 16) = omega (arith, h) in
        ap (λ x. filter (member s) (range_with_len 0 x)) e ∙ ap (filter (member s)) (counting_split 0 16 (n - 16)) ∙ filter-append (member s) (range_with_len 0 16) (range_with_len (0 + 16) (n - 16))
        ∙ ap (λ xs. filter (member s) (range_with_len 0 16) ++ xs) (kept_none (member s) (0 + 16) (n - 16) (λ k past _. member_past s k (omega (arith, past)))) ∙ append-nil (filter (member s) (range_with_len 0 16))

-- cutting a set off at n
module _ (s cut : TrioSet) (n : ℕ) (is : (k : ℕ) → member cut k ≡ (member s k && ltb k n)) where
  pub cut_reached : Reaches n cut
  cut_reached k h = ltb-true k n (and_parts (member s k) (ltb k n) (sym (is k) ∙ h)).1

  pub cut_members : members cut ≡ first_members s n
  unfolding first_members
  cut_members = sym (first_all cut n cut_reached) ∙ kept_agree (member cut) (member s) 0 n (λ k _ h. is k ∙ ap (λ b. member s k && b) (lt-ltb k n (omega (arith, h))) ∙ and-true (member s k))

module _ (k : Kind) {W : Type 0} (value : W → k.Value) (vs ms : List (Weights W)) (ls : Links) (voters modules : TrioSet) where
  abbrev pub group_from : TrioSet → ℕ → k.Value
  group_from chosen v = group_weight k (voter_weights k (read_all value vs)) (module_weights k (read_all value ms)) (group (link_list ls) (members chosen) (members modules) v)

  abbrev pub one_combination : List ℕ → k.Value
  one_combination chosen = combination_weight k (voter_weights k (read_all value vs)) (module_weights k (read_all value ms)) (link_list ls) (members voters, members modules) chosen

  -- the groups that start below v
  abbrev pub groups_below : TrioSet → ℕ → k.Value
  groups_below chosen v = product_below k (group_from chosen) (head ls chosen) v

  -- the combinations below j
  abbrev pub combinations_below : ℕ → k.Value
  combinations_below j = sum k (λ i. one_combination (combination (members voters) i)) (range_with_len 0 j)

  pub group_on : (chosen : TrioSet) (v : ℕ) (found : Members) (x y : k.Value) → head ls chosen v ≡ true → ◌≡◌ {A = Members} found (group (link_list ls) (members chosen) (members modules) v) → x ≡ groups_below chosen v → y ≡ k.times x (group_weight k (voter_weights k (read_all value vs)) (module_weights k (read_all value ms)) found) → y ≡ groups_below chosen (v + 1)
  group_on chosen v found x y first is before now =
      now ∙ (λ i. k.times (before i) (group_weight k (voter_weights k (read_all value vs)) (module_weights k (read_all value ms)) (is i))) ∙ sym (product_with k (group_from chosen) (head ls chosen) v first)

  group_past : (chosen : TrioSet) (v : ℕ) (x : k.Value) → head ls chosen v ≡ false → x ≡ groups_below chosen v → x ≡ groups_below chosen (v + 1)
  group_past chosen v x not_first before = before ∙ sym (product_without k (group_from chosen) (head ls chosen) v not_first)

  -- none of the numbers from n to v is left, so no group starts there
  pub groups_past : (chosen left : TrioSet) (n d v : ℕ) (x : k.Value) → n + d ≡ v → ((u : ℕ) → n ≤ u → u < v → member left u ≡ false) → Ungrouped ls chosen left n → x ≡ groups_below chosen n → Ungrouped ls chosen left v × (x ≡ groups_below chosen v)
  groups_past chosen left n zero v x far none so_far before = let same : n ≡ v = omega (arith, far) in (subst (Ungrouped ls chosen left) same so_far, before ∙ ap (groups_below chosen) same)
  groups_past chosen left n (suc d) v x far none so_far before =
      let gone = none n (omega arith) (omega (arith, far)) in
      groups_past chosen left (n + 1) d v x (omega (arith, far)) (λ u lo hi. none u (omega arith) hi) (ungrouped_same ls chosen n left so_far gone) (group_past chosen n x (sym (left_head ls chosen n left so_far) ∙ gone) before)

  module _ (chosen rest fed alone : TrioSet) (rest_is : (i : ℕ) → member rest i ≡ (member voters i && not (member chosen i))) (fed_is : (m : ℕ) → member fed m ≡ fed_by_some ls chosen m) (alone_is : (m : ℕ) → member alone m ≡ (member modules m && not (member fed m))) where
    module _ (voters_reached : Reaches (length vs) voters) (modules_reached : Reaches (length ms) modules) where
      pub combination_is : (apart groups unfed' : k.Value)
          → apart ≡ product k (λ v. voter_weights k (read_all value vs) v whole) (first_members rest (length vs)) → groups ≡ groups_below chosen 16 → unfed' ≡ product k (λ m. module_weights k (read_all value ms) m whole) (first_members alone (length ms))
          → k.times (k.times apart groups) unfed' ≡ one_combination (members chosen)
      combination_is apart groups unfed' a g u = λ i. k.times (k.times (first i) (second i)) (third i)
        where
          first : apart ≡ product k (λ v. voter_weights k (read_all value vs) v whole) (left_out (members chosen) (members voters))
          first = a ∙ ap (product k (λ v. voter_weights k (read_all value vs) v whole)) (first_all rest (length vs) (λ i h. voters_reached i (and_parts (member voters i) (not (member chosen i)) (sym (rest_is i) ∙ h)).0) ∙ members_left voters chosen rest rest_is)

          second : groups ≡ product k (group_from chosen) (heads (link_list ls) (members chosen))
          second = g ∙ ap (product k (group_from chosen)) (sym (heads_are ls chosen))

          third : unfed' ≡ product k (λ m. module_weights k (read_all value ms) m whole) (unfed (link_list ls) (members chosen) (members modules))
          third = u ∙ ap (product k (λ m. module_weights k (read_all value ms) m whole)) (first_all alone (length ms) (λ i h. modules_reached i (and_parts (member modules i) (not (member fed i)) (sym (alone_is i) ∙ h)).0) ∙ members_unfed ls chosen modules fed alone fed_is alone_is)

  pub combination_on : (j : ℕ) (chosen : TrioSet) (x y z : k.Value) → members chosen ≡ combination (members voters) j → z ≡ one_combination (members chosen) → x ≡ combinations_below j → y ≡ k.plus x z → y ≡ combinations_below (j + 1)
  combination_on j chosen x y z is here before now =
      now ∙ (λ i. k.plus (before i) ((here ∙ ap one_combination is) i)) ∙ sym (sum_next k (λ i. one_combination (combination (members voters) i)) j)

  pub all_combinations : (j : ℕ) (x : k.Value) → j ≡ 2 ^ length (members voters) → x ≡ combinations_below j → x ≡ cell_weight k (voter_weights k (read_all value vs)) (module_weights k (read_all value ms)) (link_list ls) (members voters, members modules)
  unfolding cell_weight
  all_combinations j x all before = before ∙ ap combinations_below all

-- how many combinations there are
pub combination_count : (s : TrioSet) (len : ℕ) → len ≡ length (members s) → 1 * 2 ^ len % 18446744073709551616 ≡ 2 ^ length (members s)
combination_count s len is =
    let short : len ≤ 16 = omega (arith, is, len_bound s) in
    let few : 2 ^ len ≤ 2 ^ 16 = pow-le-pow_right {n = 2} (omega arith) short in
    let small : 1 * 2 ^ len < 18446744073709551616 = omega (arith, few) in
    let one : 1 * 2 ^ len ≡ 2 ^ len = omega arith in
    mod-eq_of_lt small ∙ one ∙ ap (λ n. 2 ^ n) is

module _ (k : Kind) {W : Type 0} (value : W → k.Value) (vs ms : List (Weights W)) (ls : Links) (cells : List Cell) where
  abbrev weight_of : Members → k.Value
  weight_of = cell_weight k (voter_weights k (read_all value vs)) (module_weights k (read_all value ms)) (link_list ls)

  -- the cells below i
  abbrev pub cells_so_far : ℕ → k.Value
  cells_so_far i = product k weight_of (map (shown_below (length vs) (length ms)) (take i cells))

  pub cell_on : (i : ℕ) (d : Cell) (x y z : k.Value) → i < length cells → z ≡ weight_of (shown_below (length vs) (length ms) (get_or cells i d)) → x ≡ cells_so_far i → y ≡ k.times x z → y ≡ cells_so_far (i + 1)
  cell_on i d x y z within here before now =
      now ∙ (λ j. k.times (before j) (here j))
      ∙ sym (product_append k weight_of k.unit (map (shown_below (length vs) (length ms)) (take i cells)) (shown_below (length vs) (length ms) (get_or cells i d) ∷ []))
      ∙ ap (product k weight_of) (sym (map-append (shown_below (length vs) (length ms)) (take i cells) (get_or cells i d ∷ [])) ∙ ap (map (shown_below (length vs) (length ms))) (sym (take_more cells i d within)))

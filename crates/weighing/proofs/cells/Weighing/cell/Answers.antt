-- Each combination adds its weight, and in it each group is found at its first voter.
use Rattle.std.proofs.Common.{◌+◌, ◌-◌, rules, of_calls, length, sym, ap, ◌∙◌, arith}
use Rattle.std.proofs.lemmas.Bool.{and_from, and_parts, lt-ltb}
use Rattle.method.specs.Method.{cell_weight, group_weight, merged, module_weights, voter_weights}
use Rattle.network.specs.Patterns.{whole}
use Rattle.network.specs.declared.Trio.TheVariants.{Voter}
use Rattle.network.proofs.Chains.{joined_itself}
use Rattle.sets.specs.Sets.{member}
use Rattle.sets.proofs.Members.{first_least, first_none, len_bound}
use Rattle.wiring.specs.Wires.{link_list}
use Rattle.weighing.specs.Entries.{read_all}
use Rattle.weighing.proofs.Chosen.{chosen_inside}
use Rattle.weighing.proofs.Gathered.{by_place}
use Rattle.weighing.proofs.Grouped.{fewer, found_inside, found_voters, group_is, left_head, left_late, ungrouped_less, ungrouped_start}
use Rattle.weighing.proofs.Weighed.{all_combinations, combination_count, combination_is, combination_on, cut_members, cut_reached, first_all, group_on, groups_past}
use Rattle.weighing.proofs.cells.Weighing.cell.Goals as goal

pub overflow_shl-j-end : goal.overflow_shl-j-end
overflow_shl-j-end g c = omega (arith, c.len-j-end.ensures, len_bound c.below-voters.result)

pub loop-v-init : goal.loop-v-init
loop-v-init g c = (0, omega arith, ungrouped_start c.args.self.now.links.now c.combination_of-chosen.result, c.unit-groups.ensures)

pub loop-v-preserved : goal.loop-v-preserved
loop-v-preserved g c =
    let w = g.W.Weight in
    let ls = c.args.self.now.links.now in
    let vs = c.args.self.now.voters.now in
    let ms = c.args.self.now.modules.now in
    let voters = c.below-voters.result in
    let modules = c.below-modules.result in
    let chosen = c.combination_of-chosen.result in
    let left = c.loop-v.ungrouped in
    let v = c.in-Some.v in
    let own = c.only_from-own.result in
    let found = c.cell_around-group.result in
    let fed = c.intersection-fed.result in
    let n = c.loop-v.invariant.0 in
    let least = first_least left v (sym c.in-Some.ensures) in
    let late = left_late ls chosen n left c.loop-v.invariant.2 v least.0 in
    let here = groups_past w.kind w.value vs ms ls voters modules chosen left n (v - n) v _ (omega (arith, late)) (λ u lo hi. least.2 u hi) c.loop-v.invariant.2 c.loop-v.invariant.3 in
    let so_far = here.0 in
    let there = least.0 in
    let own_is = c.only_from-own.ensures in
    let around = c.cell_around-group.ensures in
    let fed_is = c.intersection-fed.ensures in
    let inside = found_inside ls chosen v left so_far own found modules fed there own_is around fed_is in
    let voters-all = first_all found.voters (length vs) (λ k h. cut_reached c.args.cell.now.voters voters (length vs) c.below-voters.ensures k (chosen_inside voters chosen c.loop-j.j c.combination_of-chosen.ensures k (inside k h))) in
    let fed-all = first_all fed (length ms) (λ k h. cut_reached c.args.cell.now.modules modules (length ms) c.below-modules.ensures k (and_parts (member found.modules k) (member modules k) (sym (fed_is k) ∙ h)).1) in
    let weighed = c.group.ensures ∙ (λ i. group_weight w.kind (voter_weights w.kind (read_all w.value vs)) (module_weights w.kind (read_all w.value ms)) (voters-all i, fed-all i)) in (
      v + 1,
      omega (arith, least.1),
      ungrouped_less ls chosen v left so_far c.difference-ungrouped.result found.voters there (found_voters ls chosen v left so_far own found modules fed there own_is around fed_is) c.difference-ungrouped.ensures,
      group_on w.kind w.value vs ms ls voters modules chosen v _ _ _ (sym (left_head ls chosen v left so_far) ∙ there)
          (group_is ls chosen v left so_far own found modules fed there own_is around fed_is)
          here.1
          (c.times-groups.ensures ∙ ap (w.kind.times (w.value c.loop-v.groups)) weighed),
    )

pub loop-v-smaller : goal.loop-v-smaller
loop-v-smaller g c =
    let v = c.in-Some.v in
    let least = first_least c.loop-v.ungrouped v (sym c.in-Some.ensures) in
    fewer c.loop-v.ungrouped c.cell_around-group.result.voters c.difference-ungrouped.result v least.0
    (c.cell_around-group.ensures (Voter v) ∙ and_from _ _ (lt-ltb v 16 least.1) (joined_itself _ (Voter v)))
    c.difference-ungrouped.ensures

pub loop-j-preserved : goal.loop-j-preserved
loop-j-preserved g c =
    let w = g.W.Weight in
    let ls = c.args.self.now.links.now in
    let vs = c.args.self.now.voters.now in
    let ms = c.args.self.now.modules.now in
    let voters = c.below-voters.result in
    let modules = c.below-modules.result in
    let chosen = c.combination_of-chosen.result in
    let left = c.loop-v.ungrouped in
    let n = c.loop-v.invariant.0 in
    let le = c.loop-v.invariant.1 in
    let all = first_none left (sym c.in_default.ensures) in
    let groups = groups_past w.kind w.value vs ms ls voters modules chosen left n (16 - n) 16 _ (omega (arith, le)) (λ u lo hi. all u) c.loop-v.invariant.2 c.loop-v.invariant.3 in
    combination_on w.kind w.value vs ms ls voters modules c.loop-j.j chosen _ _ _ c.combination_of-chosen.ensures
    (combination_is w.kind w.value vs ms ls voters modules chosen c.difference.result c.fed_by.result c.difference-in-loop-j.result c.difference.ensures c.fed_by.ensures c.difference-in-loop-j.ensures
    (cut_reached c.args.cell.now.voters voters (length vs) c.below-voters.ensures) (cut_reached c.args.cell.now.modules modules (length ms) c.below-modules.ensures)
    _ _ _
    (c.product_over-whole.ensures (λ v. voter_weights w.kind (read_all w.value vs) v whole) (by_place w.kind w.value vs _ w.value (λ u. u whole) (λ x r gives. search (rules, of_calls))))
    groups.1
    (c.product_over-unfed.ensures (λ m. module_weights w.kind (read_all w.value ms) m whole) (by_place w.kind w.value ms _ w.value (λ u. merged w.kind u whole) (λ x r gives. search (rules, of_calls)))))
    c.loop-j.invariant
    (c.plus-total.ensures ∙ ap (w.kind.plus (w.value c.loop-j.total)) (c.times-in-loop-j.ensures ∙ ap (λ x. w.kind.times x (w.value c.product_over-unfed.result)) c.times.ensures))

pub returns : goal.returns
returns g c =
    let w = g.W.Weight in
    let ls = c.args.self.now.links.now in
    let vs = c.args.self.now.voters.now in
    let ms = c.args.self.now.modules.now in
    let voters = c.below-voters.result in
    let modules = c.below-modules.result in
    all_combinations w.kind w.value vs ms ls voters modules c.loop-j.j _
    (omega (arith, c.loop-j-test.false, c.loop-j.auto.j-end) ∙ combination_count voters c.len-j-end.result c.len-j-end.ensures)
    c.loop-j.invariant
    ∙ (λ i. cell_weight w.kind (voter_weights w.kind (read_all w.value vs)) (module_weights w.kind (read_all w.value ms)) (link_list ls) (cut_members c.args.cell.now.voters voters (length vs) c.below-voters.ensures i, cut_members c.args.cell.now.modules modules (length ms) c.below-modules.ensures i))

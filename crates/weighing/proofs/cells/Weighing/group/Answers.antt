-- The sum over the positions of the two products there.
use Rattle.std.proofs.Common.{◌≡◌, ℕ, length, ap, ◌∙◌, rules, of_calls}
use Rattle.method.specs.Method.{merged, module_weights, over_positions, voter_weights}
use Rattle.network.specs.Patterns.{Position, at}
use Rattle.weighing.specs.Entries.{at_position, first_members, read, read_all}
use Rattle.weighing.proofs.Gathered.{by_place, product_at}
use Rattle.weighing.proofs.cells.Weighing.group.Goals as goal

pub returns : goal.returns
returns g c =
    let w = g.W.Weight in
    let k = w.kind in
    let vs = c.args.self.now.voters.now in
    let ms = c.args.self.now.modules.now in
    let v : ℕ → Position → k.Value = λ i p. voter_weights k (read_all w.value vs) i (at p) in
    let m : ℕ → Position → k.Value = λ i p. module_weights k (read_all w.value ms) i (at p) in
    let faults = c.product_over-faults.ensures v (by_place k w.value vs _ (at_position w.value) (λ u p. u (at p)) (λ x r gives. search (rules, of_calls))) in
    let places = c.product_over-places.ensures m (by_place k w.value ms _ (at_position w.value) (λ u p. merged k u (at p)) (λ x r gives. let e : (p : Position) → at_position w.value r p ≡ merged k (read w.value x) (at p) = search (rules, of_calls) in λ j p. e p j)) in
    c.sum.ensures
    ∙ ap (over_positions k) (c.times.ensures ∙ (λ j p. k.times (product_at k v p (first_members c.args.voters (length vs)) _ faults j) (product_at k m p (first_members c.args.fed (length ms)) _ places j)))

-- One entry for each trio: the first for the voters, the others for the modules.
use Rattle.std.proofs.Common.{◌≡◌, ◌+◌, ◌-◌, not, [], map, length, take, drop, Ok, sym, ap, ◌∙◌, arith, length-drop}
use lib.ListN.{length-map}
use Rattle.std.proofs.lemmas.List.{take_all}
use Rattle.std.proofs.lemmas.Bool.{eq-eqb}
use Rattle.method.specs.Method.{by_cells}
use Rattle.network.proofs.Dues.{miss}
use Rattle.network.proofs.Keeps.{limits}
use Rattle.network.specs.Networks.{module_count, voter_count}
use Rattle.network.specs.Questions.{weights_mismatch}
use Rattle.refusals.specs.Refusals.{answered}
use Rattle.weighing.specs.Entries.{read, read_all}
use Rattle.wiring.specs.CellSets.{shown}
use Rattle.cabinet.specs.Cabinets.{network}
use Rattle.cabinet.proofs.Weighed.{weighed_all}
use Rattle.cabinet.proofs.cabinet.Cabinet.weigh.Goals as goal

pub overflow_add-voter_count : goal.overflow_add-voter_count
overflow_add-voter_count g c = let l = limits (network c.args.self.now) c.args.self.now.limits in omega (arith, l.few_voters, l.few_modules, c.len-voter_count.ensures, c.len.ensures)

pub returns : goal.returns
returns g c =
    let w = g.W.Weight in
    let n = network c.args.self.now in
    let ws = read_all w.value c.args.weights.now in
    let long : length ws ≡ length c.args.weights.now = length-map c.args.weights.now (read w.value) in
    let as_many : length c.args.weights.now ≡ voter_count n + module_count n = omega (arith, c.if-weights-voter_count.false, c.len-voter_count.ensures, c.len.ensures) in
    let rows = c.args.weights.now in
    ap Ok (weighed_all n _ (ap (map shown) c.as_slice.ensures ∙ c.cells-list.ensures) w.kind w.value c.args.weights.now _ _ _ as_many (ap (λ v. take v rows) c.len-voter_count.ensures) (take_all (length rows - c.len-voter_count.result) (drop c.len-voter_count.result rows) (omega (arith, length-drop c.len-voter_count.result rows)) ∙ ap (λ v. drop v rows) c.len-voter_count.ensures) c.weigh_cells.ensures)
    ∙ sym (ap (λ o. answered o (by_cells w.kind n ws)) (miss (weights_mismatch (length ws) n) [] (ap not (eq-eqb (length ws) (voter_count n + module_count n) (long ∙ as_many)))))

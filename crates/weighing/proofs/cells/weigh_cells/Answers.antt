-- Each cell multiplies its weight on.
use Rattle.weighing.proofs.Weighed.{cell_on}
use Rattle.weighing.proofs.cells.weigh_cells.Goals as goal

pub loop-cell-preserved : goal.loop-cell-preserved
loop-cell-preserved g c =
    let w = g.W.Weight in
    cell_on w.kind w.value c.args.voters.now c.args.modules.now c.args.links.now c.args.cells.now c.loop-cell.cell-index _ _ _ _ c.loop-cell-test.true
    c.cell.ensures c.loop-cell.invariant c.times-product.ensures

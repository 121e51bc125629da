-- The product over the cells gone through.
use Rattle.std.proofs.Common.{◌≡◌}
use Rattle.weighing.proofs.Weighed.{cells_so_far}
use Rattle.weighing.proofs.cells.weigh_cells.Given as goal

abbrev pub invariant-loop-cell : goal.invariant-loop-cell
invariant-loop-cell g l =
    let w = g.W.Weight in
    w.value l.product ≡ cells_so_far w.kind w.value l.voters l.modules l.links l.cells l.cell-index

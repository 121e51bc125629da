-- Each turn adds what one row gives, and the last one ends the product.
use Rattle.std.proofs.Common.{◌+◌, arith}
use Rattle.matrices.proofs.Values.{entry_value, summed_more, summed_none, times_row}
use Rattle.matrices.proofs.matrix.FaultMatrix.product_entry.Goals as goal

pub loop-a-init : goal.loop-a-init
loop-a-init c = summed_none (times_row c.args.self.now.entries c.args.other.now.entries c.args.place.row c.args.place.column)

pub loop-a-preserved : goal.loop-a-preserved
loop-a-preserved c =
    summed_more (times_row c.args.self.now.entries c.args.other.now.entries c.args.place.row c.args.place.column)
    c.loop-a.a c.loop-a.total _ c.loop-a.invariant c.row_product-total.ensures

pub returns-2 : goal.returns-2
returns-2 c =
    let xs = c.args.self.now.entries in
    let ys = c.args.other.now.entries in
    entry_value xs ys c.args.place.row c.args.place.column (c.loop-a.a + 1) _ (omega arith)
    (summed_more (times_row xs ys c.args.place.row c.args.place.column) c.loop-a.a c.loop-a.total _ c.loop-a.invariant c.row_product-total.ensures)

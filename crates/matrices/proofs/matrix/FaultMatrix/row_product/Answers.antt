-- Each turn adds the product of two entries, and the last one ends the row.
use Rattle.std.proofs.Common.{◌+◌, arith}
use Rattle.matrices.proofs.Values.{row_more, row_value, summed_none, times_term}
use Rattle.matrices.proofs.matrix.FaultMatrix.row_product.Goals as goal

pub loop-b-init : goal.loop-b-init
loop-b-init c = summed_none (times_term c.args.self.now.entries c.args.other.now.entries c.args.place.row c.args.place.column c.args.a)

pub loop-b-preserved : goal.loop-b-preserved
loop-b-preserved c = row_more _ _ _ _ _ _ _ c.args.place.row_within c.args.place.column_within c.requires (omega arith) c.loop-b.invariant

pub returns-2 : goal.returns-2
returns-2 c =
    row_value c.args.self.now.entries c.args.other.now.entries c.args.place.row c.args.place.column c.args.a (c.loop-b.b + 1) _ (omega arith)
    (row_more _ _ _ _ _ _ _ c.args.place.row_within c.args.place.column_within c.requires (omega arith) c.loop-b.invariant)

-- One is put among zeros.
use Rattle.std.proofs.Common.{arith}
use Rattle.matrices.proofs.Values.{one_value}
use Rattle.matrices.proofs.matrix.FaultMatrix.powers.Goals as goal

pub returns : goal.returns
returns c = one_value _ c.args.place.row c.args.place.column c.args.place.row_within c.args.place.column_within (omega arith)

-- Zeros stand for nothing.
use Rattle.matrices.proofs.Values.{zeros_value}
use Rattle.matrices.proofs.matrix.scale.FaultMatrixWeight.nothing.Goals as goal

pub returns : goal.returns
returns c = zeros_value

-- The unit is the power 0 of both unknowns.
use Rattle.std.proofs.Common.{sym, ◌∙◌, ap₂}
use Rattle.matrices.specs.FaultMatrices.{powers}
use Rattle.matrices.specs.FaultMatricesLemmas.{unit_powers}
use Rattle.matrices.proofs.matrix.scale.FaultMatrixWeight.unit.Goals as goal

pub returns : goal.returns
returns c = c.powers.ensures ∙ ap₂ powers c.new.ensures.row c.new.ensures.column ∙ sym unit_powers

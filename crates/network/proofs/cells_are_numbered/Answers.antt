-- Cells are numbered by the chains of links.
use Rattle.network.proofs.Numbered.{cells_numbered}
use Rattle.network.proofs.cells_are_numbered.Goals as goal

pub returns : goal.returns
returns c = cells_numbered

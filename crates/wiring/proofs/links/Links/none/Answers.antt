-- Sixteen empty rows.
use Rattle.wiring.specs.Wires.{feeds}
use Rattle.wiring.proofs.RowEdits.{empty_rows, list_none}
use Rattle.wiring.proofs.links.Links.none.Goals as goal

pub returns : goal.returns
unfolding feeds
returns c = list_none _ (empty_rows c.empty.result c.empty.ensures)

-- There are as many cells as are listed.
use Rattle.std.proofs.Common.{length, ap, ◌∙◌}
use Rattle.cabinet.specs.CellLists.{listed}
use Rattle.cabinet.specs.Cabinets.{network}
use Rattle.cabinet.proofs.Listing.{count_listed}
use Rattle.cabinet.proofs.cabinet.Cabinet.cell_count.Goals as goal

pub returns : goal.returns
returns c = ap length c.as_slice.ensures ∙ count_listed (network c.args.self.now) (listed c.cells.result) c.cells.ensures

-- None of the array is counted.
use Rattle.std.proofs.Common.{refl}
use Rattle.cabinet.specs.CellLists.{listed}
use Rattle.cabinet.proofs.cell_list.CellList.new.Goals as goal

pub returns : goal.returns
unfolding listed
returns c = refl

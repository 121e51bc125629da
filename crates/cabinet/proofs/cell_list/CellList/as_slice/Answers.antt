-- The front of the array.
use native.Mathlib.Nat.{sub-zero}
use Rattle.cabinet.specs.CellLists.{listed}
use Rattle.cabinet.proofs.cell_list.CellList.as_slice.Goals as goal

pub returns : goal.returns
unfolding listed
returns c = rw sub-zero

-- What a list of cells stands for.
use Rattle.std.specs.Prelude.{List, map, take}
use Rattle.network.specs.Cells.{Members}
use Rattle.wiring.specs.CellSets.{shown}
use Rattle.wiring.specs.declared.cell.Cell.{Cell}
use Rattle.cabinet.specs.declared.cell_list.CellList.{CellList}

-- the cells that are counted
unfoldable pub listed : CellList → List Cell
listed l = take l.count l.cells

-- each cell by the numbers of its trios
abbrev pub shown_list : List Cell → List Members
shown_list cs = map shown cs

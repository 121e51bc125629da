-- The cells of the first trios so far.
use Rattle.std.proofs.Common.{◌≡◌, ◌≤◌, length}
use Rattle.cabinet.specs.CellLists.{listed, shown_list}
use Rattle.cabinet.specs.Cabinets.{network}
use Rattle.cabinet.proofs.Listing.{cells_so_far}
use Rattle.cabinet.proofs.cabinet.Cabinet.cells.Given as goal

abbrev pub invariant-loop-trio : goal.invariant-loop-trio
invariant-loop-trio l =
    (goal.iterator-loop-trio).can_next l.trio-iterator × (goal.iterator-loop-trio).is_finite l.trio-iterator
    × (length (listed l.list) ≤ length l.yielded) × (shown_list (listed l.list) ≡ cells_so_far (network l.self) (length l.yielded))

-- A cell is the one at its place in the list.
use Rattle.std.proofs.Common.{ap, ◌∙◌}
use Rattle.std.specs.Option.{ok_or}
use Rattle.std.specs.Result.{result_map_both}
use Rattle.refusals.specs.declared.Refusal.TheVariants.{NoCell}
use Rattle.wiring.specs.CellSets.{shown}
use Rattle.cabinet.specs.CellLists.{shown_list}
use Rattle.cabinet.specs.Cabinets.{network}
use Rattle.cabinet.proofs.Listing.{cell_read}
use Rattle.cabinet.proofs.cabinet.Cabinet.cell.Goals as goal

pub returns : goal.returns
returns c =
    ap (λ r. result_map_both shown (λ e. e) r) (c.ok_or.ensures.value ∙ ap (λ o. ok_or o NoCell) c.copied.ensures)
    ∙ cell_read (network c.args.self.now) c.as_slice.result.now c.args.number (ap shown_list c.as_slice.ensures ∙ c.cells-list.ensures) c.get.result c.get.ensures.lookup.0 c.get.ensures.lookup.1

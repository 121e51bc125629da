-- The trio's cell is the one that holds it.
use Rattle.std.proofs.Common.{◌≡◌, true, false, ℕ, [], length, Ok, Option, ap, ap₂, ◌∙◌}
use Rattle.std.proofs.lemmas.Bool.{not-false}
use Rattle.std.specs.List.{position}
use Rattle.std.specs.Option.{unwrap_or}
use Rattle.network.specs.Changes.{absent}
use Rattle.network.specs.Networks.{Network, present}
use Rattle.network.specs.declared.Trio.{Trio}
use Rattle.network.specs.declared.Trio.TheVariants.{Voter, Module}
use Rattle.network.proofs.Dues.{answers_value, miss, passed}
use Rattle.network.proofs.Keeps.{limits}
use Rattle.wiring.specs.CellSets.{holds}
use Rattle.wiring.specs.declared.cell.Cell.{Cell}
use Rattle.cabinet.specs.CellLists.{listed}
use Rattle.cabinet.specs.Cabinets.{network}
use Rattle.cabinet.proofs.Listing.{place_found, place_listed}
use Rattle.cabinet.proofs.cabinet.Cabinet.cell_of.Goals as goal

there : (n : Network) (t : Trio) → (absent t n).0 ≡ false → present n t ≡ true
there n (Voter v) h = not-false _ h
there n (Module m) h = not-false _ h

pub returns : goal.returns
returns c =
    let s = c.args.self.now in
    let n = network s in
    let t = c.args.trio in
    let l = limits n s.limits in
    let cells = listed c.cells-list.result in
    let k = passed (absent t n) tt _ c.in_ok-present.ensures in
    let found = c.unwrap_or.ensures ∙ ap₂ (λ (o : Option ℕ) (k : ℕ). unwrap_or o k) (c.first_holding-number.ensures ∙ ap (position (λ (x : Cell). holds x t)) c.as_slice-cells.ensures) (ap length c.as_slice-cells.ensures)
    ∙ place_found (λ (x : Cell). holds x t) cells ∙ place_listed n t l.few_voters l.few_modules (there n t k) cells c.cells-list.ensures in
    ap Ok found ∙ answers_value _ _ (miss (absent t n) [] k)

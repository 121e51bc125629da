-- The cell comes last, where there is room.
use Rattle.std.proofs.Common.{◌≡◌, ◌<◌, length, sym, ◌∙◌, arith, length-take}
use Rattle.std.proofs.lemmas.List.{take_more_set}
use Rattle.std.proofs.lemmas.Bool.{cond-false, cond-true, le-ltb, lt-ltb}
use Rattle.cabinet.specs.CellLists.{listed}
use Rattle.cabinet.specs.declared.cell_list.CellList.{CellList}
use Rattle.cabinet.proofs.cell_list.CellList.push.Goals as goal

counted : (l : CellList) → length (listed l) ≡ l.count
unfolding listed
counted l = simp length-take (omega (arith, l.long, l.fits))

pub returns-then-self-lt31 : goal.returns-then-self-lt31
unfolding listed
returns-then-self-lt31 c =
    let l = c.args.self.now in
    let within : l.count < length l.cells = omega arith in
    take_more_set l.cells l.count c.args.cell within ∙ sym (cond-true _ _ _ (lt-ltb (length (listed l)) 31 (rw (counted l) c.if-self-lt31.true)))

pub returns-else-self-lt31 : goal.returns-else-self-lt31
returns-else-self-lt31 c = let l = c.args.self.now in sym (cond-false _ _ _ (le-ltb (length (listed l)) 31 (rw (counted l) c.if-self-lt31.false)))

-- A trio's code is that at its place in the list.
use Rattle.std.proofs.Common.{Some, sym, ap, ◌∙◌, arith}
use Rattle.std.proofs.lemmas.Bool.{cond-false, cond-true, le-ltb, lt-ltb}
use Rattle.wiring.proofs.Codes.{code_at, length_codes}
use Rattle.wiring.proofs.table.TrioTable.code.Goals as goal

pub returns-then-i-self : goal.returns-then-i-self
returns-then-i-self g c =
    let t = c.args.self.now in
    sym (cond-false _ _ _ (le-ltb c.args.i _ (omega (arith, length_codes t, c.if-i-self.true))))

pub returns : goal.returns
returns g c =
    let t = c.args.self.now in
    ap Some (code_at t c.args.i _ c.if-i-self.false) ∙ sym (cond-true _ _ _ (lt-ltb c.args.i _ (omega (arith, length_codes t, c.if-i-self.false))))

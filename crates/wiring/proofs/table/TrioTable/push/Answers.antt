-- The code comes last, or the table is full.
use Rattle.std.proofs.Common.{Some, sym, refl, ap, ◌∙◌, arith}
use Rattle.std.proofs.lemmas.Bool.{cond-false, cond-true, le-ltb, lt-ltb}
use Rattle.wiring.proofs.Codes.{codes_push, length_codes}
use Rattle.wiring.proofs.table.TrioTable.push.Goals as goal

pub returns-then-number : goal.returns-then-number
returns-then-number g c =
    record {
      value = sym (cond-false _ _ _ (le-ltb _ g.row.N (omega (arith, length_codes c.args.self.now, c.if-number.true))));
      after = refl;
    }

pub returns : goal.returns
returns g c =
    let room = lt-ltb _ g.row.N (omega (arith, length_codes c.args.self.now, c.if-number.false)) in
    record {
      value = ap Some (sym (length_codes c.args.self.now)) ∙ sym (cond-true _ _ _ room);
      after = codes_push c.args.self.now _ (record { code = c.args.code }) c.if-number.false refl refl;
    }

-- One code is replaced, or there is no such trio.
use Rattle.std.proofs.Common.{set, sym, refl, ap, ◌∙◌, arith}
use Rattle.std.proofs.lemmas.Bool.{cond-false, cond-true, le-ltb, lt-ltb}
use Rattle.wiring.specs.Tables.{codes}
use Rattle.wiring.proofs.Codes.{codes_past, codes_set, length_codes}
use Rattle.wiring.proofs.table.TrioTable.relabel.Goals as goal

pub returns-then-i-self : goal.returns-then-i-self
returns-then-i-self g c =
    record {
      value = sym (cond-false _ _ _ (le-ltb c.args.i _ (omega (arith, length_codes c.args.self.now, c.if-i-self.true))));
      after = codes_past c.args.self.now c.args.i c.args.code c.if-i-self.true;
    }

pub returns : goal.returns
returns g c =
    record {
      value = sym (cond-true _ _ _ (lt-ltb c.args.i _ (omega (arith, length_codes c.args.self.now, c.if-i-self.false))));
      after = codes_set c.args.self.now _ c.args.i _ refl refl ∙ ap (set (codes c.args.self.now) c.args.i) c.relabel.ensures;
    }

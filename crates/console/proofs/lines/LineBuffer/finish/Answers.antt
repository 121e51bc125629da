-- A buffer that holds bytes holds those of a line that has some.
use Rattle.std.proofs.Common.{sym, arith, rules}
use Rattle.std.proofs.lemmas.Bool.{cond-false, ne_eqb}
use Rattle.console.proofs.Cuts.{held_some}
use Rattle.console.proofs.lines.LineBuffer.finish.Goals as goal

pub returns-else-self-eq0 : goal.returns-else-self-eq0
returns-else-self-eq0 c =
    record {
      value = sym (cond-false _ _ _ (ne_eqb c.args.self.len 0 (omega arith)));
      ends = λ part kept.
          let some = held_some c.args.self.len c.args.self.bytes part (omega arith) (omega arith) (omega arith) kept in
          search rules;
    }

-- An entry that is read is the number of its value.
use Rattle.std.proofs.Common.{Some, sym, ap, ◌∙◌, arith, rules}
use Rattle.matrices.proofs.Values.{entry_number}
use Rattle.matrices.proofs.matrix.FaultMatrix.entry.Goals as goal
use Rattle.std.proofs.lemmas.Bool.{and_from, cond-true, lt-ltb}

pub returns : goal.returns
returns c =
    ap Some (entry_number c.args.self.now.entries _ c.args.row c.args.column (omega arith) (omega arith) (omega arith) (search rules))
    ∙ sym (cond-true _ _ _ (and_from _ _ (lt-ltb c.args.row 17 (omega arith)) (lt-ltb c.args.column 16 (omega arith))))

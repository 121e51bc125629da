-- The digits that are written are those of the remainder.
use Rattle.std.proofs.Common.{◌≡◌, decimal, ap, arith}
use Rattle.scales.proofs.Prints.{printed_answer, printed_buffer}
use Rattle.trials.specs.Residues.{residue_print, residue_value}
use Rattle.trials.proofs.residue.ResidueScale.write.Goals as goal

pub returns : goal.returns
returns c =
    let digits : decimal c.from-2.result ≡ residue_print (residue_value c.args.self.now) = ap decimal (omega arith) in
    record {
      value = printed_answer digits _ c.put_decimal.ensures.value c.ok_or.ensures.value;
      after = printed_buffer digits _ c.put_decimal.ensures.after;
    }

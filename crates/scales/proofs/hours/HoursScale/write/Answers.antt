-- What is written is '-' for never, and else the digits of the value, since the number is below 2^32.
use Rattle.std.proofs.Common.{◌≡◌, [], ◌∷◌, decimal, sym, ap, ◌∙◌, arith}
use Rattle.scales.specs.Durations.{duration_print, duration}
use Rattle.scales.proofs.Prints.{printed_answer, printed_buffer}
use Rattle.scales.proofs.hours.HoursScale.write.Goals as goal
use Rattle.scales.proofs.hours.HoursScale.write.Goals.{in-None, in-Some}

pub returns : goal.returns
returns c = elim c.match-self.branch [
  | in-None w ↦
      let dash : 45 ∷ [] ≡ duration_print (duration c.args.self.now.0) = ap (λ o. duration_print (duration o)) (sym w.in-None.is) in
      record {
        value = printed_answer dash _ (w.end-is ∙ w.put-end.ensures.value) c.ok_or.ensures.value;
        after = printed_buffer dash _ (w.buffer-is ∙ w.put-end.ensures.after);
      }
  | in-Some w ↦
      let digits : decimal w.from.result ≡ duration_print (duration c.args.self.now.0) =
      ap decimal (omega arith) ∙ ap (λ o. duration_print (duration o)) (sym w.in-Some.is) in
      record {
        value = printed_answer digits _ (w.end-is ∙ w.put_decimal-end.ensures.value) c.ok_or.ensures.value;
        after = printed_buffer digits _ (w.buffer-is ∙ w.put_decimal-end.ensures.after);
      }
]

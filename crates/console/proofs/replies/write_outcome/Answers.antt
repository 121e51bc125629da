-- Each outcome fits, and is written.
use Rattle.std.proofs.Common.{◌++◌, codes, ap, ◌∙◌, arith}
use Rattle.scales.specs.Counts.{count_value}
use Rattle.scales.specs.Durations.{duration_value}
use Rattle.text.proofs.Writes.{after_write_fits, end_of_fits}
use Rattle.console.specs.Replies.{newline, outcome_text, reply_text}
use Rattle.console.proofs.Written.{count_few, hours_few}
use Rattle.console.proofs.replies.write_outcome.Goals as goal

pub write_total-requires : goal.write_total-requires
write_total-requires c = omega (arith, count_few (count_value c.in-Counted.count))

pub write_total-requires-in-Lasting : goal.write_total-requires-in-Lasting
write_total-requires-in-Lasting c = omega (arith, hours_few (duration_value c.in-Lasting.hours))

pub returns-in-Done : goal.returns-in-Done
unfolding reply_text
returns-in-Done c =
    let ok = codes "ok" ++ newline in
    let b = c.args.buffer.now in
    let done = ap outcome_text c.in-Done.is in
    rw done (record { value = c.put.ensures.value ∙ end_of_fits 0 ok b (omega arith); after = c.put.ensures.after ∙ after_write_fits 0 ok b (omega arith) })

-- The digits of the number are those of its value, since it is below 2^64.
use Rattle.std.proofs.Common.{◌≡◌, ◌%◌, decimal, ap, arith}
use Rattle.scales.specs.Counts.{count_limit}
use Rattle.scales.proofs.Prints.{printed_answer, printed_buffer}
use Rattle.scales.proofs.count.CountScale.write.Goals as goal

pub returns : goal.returns
returns c =
    let n = c.args.self.now.n in
    let digits : decimal n ≡ decimal (n % count_limit) = ap decimal (omega arith) in
    record {
      value = printed_answer digits _ c.put_decimal.ensures.value c.ok_or.ensures.value;
      after = printed_buffer digits _ c.put_decimal.ensures.after;
    }

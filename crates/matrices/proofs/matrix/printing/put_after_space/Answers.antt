-- The space has room, and then the number.
use Rattle.std.proofs.Common.{◌≡◌, ◌+◌, [], ◌∷◌, decimal, ◌∙◌, arith}
use Rattle.matrices.proofs.Prints.{after_space, ends}
use Rattle.matrices.proofs.matrix.printing.put_after_space.Goals as goal

pub returns : goal.returns
returns c =
    let start : c.unwrap_or-start.result ≡ c.args.at + 1 =
    c.unwrap_or-start.ensures ∙ ends c.put.result c.args.at c.args.at (32 ∷ []) c.args.buffer.now c.put.ensures.value (omega arith) in
    let end =
    c.unwrap_or.ensures
    ∙ ends c.put_decimal.result c.unwrap_or-start.result c.unwrap_or-start.result (decimal c.args.n) c.put.new.buffer c.put_decimal.ensures.value (omega arith) in
    record {
      value = omega arith;
      after = after_space c.args.at c.unwrap_or-start.result c.args.n c.args.buffer.now c.put.new.buffer c.put_decimal.new.buffer (omega arith) c.put.ensures.after start c.put_decimal.ensures.after;
    }

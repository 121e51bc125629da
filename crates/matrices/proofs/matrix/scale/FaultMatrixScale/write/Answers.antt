-- A print that has no room is refused, and any other is written.
use Rattle.std.proofs.Common.{◌<◌, ◌≤◌, length, sym, ◌∙◌, arith}
use Rattle.matrices.specs.FaultMatrices.{matrix_print}
use Rattle.matrices.specs.Values.{matrix_value}
use Rattle.matrices.proofs.Prints.{printed_fits, printed_full}
use Rattle.matrices.proofs.matrix.scale.FaultMatrixScale.write.Goals as goal
use Rattle.text.proofs.Writes.{after_write_fits, after_write_full}

pub returns-then-print_len-buffer : goal.returns-then-print_len-buffer
returns-then-print_len-buffer c =
    let t = matrix_print (matrix_value c.args.self.now) in
    let b = c.args.buffer.now in
    let full : length b < length t = omega arith in
    record {
      value = printed_full t b full;
      after = sym (after_write_full 0 t b (omega arith));
    }

pub returns : goal.returns
returns c =
    let t = matrix_print (matrix_value c.args.self.now) in
    let b = c.args.buffer.now in
    let fits : length t ≤ length b = omega arith in
    record {
      value = printed_fits t b c.print_into.result fits c.print_into.ensures.value;
      after = c.print_into.ensures.after ∙ sym (after_write_fits 0 t b (omega arith));
    }

-- Each turn adds a space and the digits of a number.
use Rattle.std.proofs.Common.{◌+◌, length, decimal, ap, ◌∙◌, arith, rules}
use Rattle.matrices.proofs.Prints.{front_all, measured_first, measured_more, rest_number}
use Rattle.matrices.proofs.matrix.FaultMatrix.print_len.Goals as goal

pub loop-n-init : goal.loop-n-init
loop-n-init c = measured_first c.args.self.now.entries c.digit_count-len.result (search rules) c.digit_count-len.ensures.value c.digit_count-len.ensures.few

pub loop-n-preserved : goal.loop-n-preserved
loop-n-preserved c =
    let xs = c.args.self.now.entries in
    let i = c.loop-n.n-index in
    measured_more xs (i + 1) c.loop-n.len c.digit_count.result (omega arith) (omega arith) (search rules) c.loop-n.invariant
    (c.digit_count.ensures.value ∙ ap (λ n. length (decimal n)) (rest_number xs i (omega arith))) c.digit_count.ensures.few

pub returns : goal.returns
returns c = c.loop-n.invariant.0 ∙ ap length (front_all c.args.self.now.entries (c.loop-n.n-index + 1) (omega arith))

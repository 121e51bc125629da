-- The parts of a reply fit, and stand one after another.
use Rattle.std.proofs.Common.{codes, decimal, ap, ◌∙◌, arith}
use Rattle.refusals.specs.Refusals.{number}
use Rattle.text.specs.Placed.{after_write, end_of}
use Rattle.text.proofs.Writes.{after_write_fits}
use Rattle.console.specs.Replies.{reply_text, told_by}
use Rattle.console.proofs.Written.{all_written, digits_few, no_end, second_fits, the_end}
use Rattle.console.proofs.replies.write_reply.Goals as goal

pub returns-in_err-end-in-Err : goal.returns-in_err-end-in-Err
returns-in_err-end-in-Err c = absurd (no_end 0 (codes "no ") c.args.buffer.now (omega arith) c.in_err-end-in-Err.ensures.value)

pub returns-in_err-end-in-Err-2 : goal.returns-in_err-end-in-Err-2
returns-in_err-end-in-Err-2 c =
    let e = c.in-Err.refusal in
    let b = c.args.buffer.now in
    let b_1 = c.put.new.buffer in
    let k = c.in_ok-end-in-Err.end in
    let fits = second_fits (codes "no ") (decimal (number e)) b (omega (arith, digits_few e)) k b_1 c.in_ok-end-in-Err.ensures.value c.put.ensures.after in
    absurd (no_end k (decimal (number e)) b_1 fits (c.in_err-end-in-Err-2.ensures.value ∙ ap (λ x. end_of k (decimal x) b_1) (c.from.ensures ∙ c.number.ensures)))

pub returns-in_ok-end-in-Err-2 : goal.returns-in_ok-end-in-Err-2
unfolding reply_text
returns-in_ok-end-in-Err-2 c =
    let e = c.in-Err.refusal in
    let digits = decimal (number e) in
    let b = c.args.buffer.now in
    let b_1 = c.put.new.buffer in
    let k = c.in_ok-end-in-Err.end in
    let j = c.in_ok-end-in-Err-2.end in
    let at = c.in_ok-end-in-Err.ensures.value in
    let is = c.put.ensures.after in
    let few = digits_few e in
    let fits = second_fits (codes "no ") digits b (omega arith) k b_1 at is in
    let at_2 = c.in_ok-end-in-Err-2.ensures.value ∙ ap (λ x. end_of k (decimal x) b_1) (c.from.ensures ∙ c.number.ensures) in
    let is_2 = c.put_decimal.ensures.after ∙ ap (λ x. after_write k (decimal x) b_1) (c.from.ensures ∙ c.number.ensures) in
    let w =
    all_written (codes "no ") digits b (omega arith) k b_1 at is
    j c.put_decimal.new.buffer (the_end k j digits b_1 fits at_2) (is_2 ∙ after_write_fits k digits b_1 fits)
    c.put-in-Err.result c.put-in-Err.new.buffer c.put-in-Err.ensures.value c.put-in-Err.ensures.after in
    let refused = ap told_by c.in-Err.is in
    rw refused (record { value = w.0; after = w.1 })

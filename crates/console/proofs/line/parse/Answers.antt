-- `parse` answers nothing at an empty line and past 40 bytes, and else what the first byte names.
use Rattle.std.proofs.Common.{◌-◌, length, take, drop, sym, ap, ◌∙◌, arith, ltb-false, ltb-true}
use Rattle.console.specs.Requests.{named_call}
use Rattle.console.proofs.Calls.{request_none, request_long, request_named}
use Rattle.console.proofs.line.parse.Goals as goal

pub returns-in_default : goal.returns-in_default
returns-in_default c = sym (request_none _ (omega (arith, ltb-true)))

pub returns-then-line-gt-LONGEST_LINE : goal.returns-then-line-gt-LONGEST_LINE
returns-then-line-gt-LONGEST_LINE c = sym (request_long _ (omega arith))

pub returns : goal.returns
returns c =
    let line = c.args.line.now in
    c.named_call.ensures ∙ ap (λ l. named_call l (take (length line - 1) (drop 1 line))) c.from.ensures ∙ sym (request_named line (omega (arith, ltb-false)) (omega arith))

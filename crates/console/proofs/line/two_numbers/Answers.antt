-- `two_numbers` answers the number of a first field that is not too big, with the one number of the rest.
use Rattle.std.proofs.Common.{sym, ◌∙◌, arith}
use Rattle.console.proofs.Numbers.{two_numbers_none, two_numbers_big, two_numbers_second}
use Rattle.console.proofs.line.two_numbers.Goals as goal

pub returns-in_err-first : goal.returns-in_err-first
returns-in_err-first c = c.from_residual.ensures ∙ sym (two_numbers_none _ _ (sym c.in_err-first.ensures))

pub returns-then-first-most : goal.returns-then-first-most
returns-then-first-most c = sym (two_numbers_big _ _ _ _ (sym c.in_ok-first.ensures) (omega arith))

pub returns-in_err-second : goal.returns-in_err-second
returns-in_err-second c =
    c.from_residual-in_err-second.ensures
    ∙ sym (two_numbers_second _ _ _ _ (sym c.in_ok-first.ensures) _ (omega arith) c.in_err-second.ensures)

pub returns : goal.returns
returns c =
    sym (two_numbers_second _ _ _ _ (sym c.in_ok-first.ensures) _ (omega arith) c.in_ok-second.ensures)

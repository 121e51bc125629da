-- `one_number` answers the number of a field that ends the text and is not too big, and else nothing.
use Rattle.std.proofs.Common.{sym, ◌∙◌, arith, ltb-false, ltb-true}
use Rattle.console.proofs.Numbers.{one_number_none, one_number_some, one_number_big, one_number_more}
use Rattle.console.proofs.line.one_number.Goals as goal

pub returns-in_err-n : goal.returns-in_err-n
returns-in_err-n c = c.from_residual.ensures ∙ sym (one_number_none _ _ (sym c.in_err-n.ensures))

pub returns-in_default : goal.returns-in_default
returns-in_default c = sym (one_number_more _ _ _ _ (sym c.in_ok-n.ensures) (omega (arith, ltb-false)))

pub returns-then-n-most : goal.returns-then-n-most
returns-then-n-most c = sym (one_number_big _ _ _ _ (sym c.in_ok-n.ensures) (omega arith))

pub returns : goal.returns
returns c = sym (one_number_some _ _ _ _ (sym c.in_ok-n.ensures) (omega arith) (omega (arith, ltb-true)))

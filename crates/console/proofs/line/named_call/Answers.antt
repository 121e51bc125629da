-- `named_call` answers, letter by letter, what the definition has for that letter.
use Rattle.std.proofs.Common.{sym, ap, ◌∙◌, arith, ltb-false, ltb-true}
use Rattle.std.specs.Option.{option_map}
use Rattle.console.specs.Requests.{given_number}
use Rattle.console.specs.declared.line.Request.TheVariants.{AddVoter, AddModule, Link, Cut, LongestRepair}
use Rattle.console.proofs.Bounds.{one_number_most}
use Rattle.console.proofs.Calls.{names_v, names_m, names_l, names_x, names_c, names_c_more, names_h, names_none}
use Rattle.console.proofs.line.named_call.Goals as goal

pub returns-in_err-one_number-in-V : goal.returns-in_err-one_number-in-V
returns-in_err-one_number-in-V c =
    c.from_residual.ensures
    ∙ ap (given_number AddVoter) c.in_err-one_number-in-V.ensures
    ∙ sym (names_v _ _ _ (omega arith) (omega arith))

pub overflow_cast-result : goal.overflow_cast-result
overflow_cast-result c = omega (arith, one_number_most _ _ _ (sym c.in_ok-one_number-in-V.ensures))

pub returns-in_ok-one_number-in-V : goal.returns-in_ok-one_number-in-V
returns-in_ok-one_number-in-V c = ap (given_number AddVoter) c.in_ok-one_number-in-V.ensures ∙ sym (names_v _ _ _ (omega arith) (omega arith))

pub returns-in_err-one_number-in-M : goal.returns-in_err-one_number-in-M
returns-in_err-one_number-in-M c =
    c.from_residual-in_err-one_number-in-M.ensures
    ∙ ap (given_number AddModule) c.in_err-one_number-in-M.ensures
    ∙ sym (names_m _ _ _ (omega arith) (omega arith))

pub overflow_cast-result-in-M : goal.overflow_cast-result-in-M
overflow_cast-result-in-M c = omega (arith, one_number_most _ _ _ (sym c.in_ok-one_number-in-M.ensures))

pub returns-in_ok-one_number-in-M : goal.returns-in_ok-one_number-in-M
returns-in_ok-one_number-in-M c = ap (given_number AddModule) c.in_ok-one_number-in-M.ensures ∙ sym (names_m _ _ _ (omega arith) (omega arith))

pub returns-in_err-link-in-L : goal.returns-in_err-link-in-L
returns-in_err-link-in-L c = c.from_residual-in_err-link-in-L.ensures ∙ ap (option_map Link) c.in_err-link-in-L.ensures ∙ sym (names_l _ _ (omega arith))

pub returns-in_ok-link-in-L : goal.returns-in_ok-link-in-L
returns-in_ok-link-in-L c = ap (option_map Link) c.in_ok-link-in-L.ensures ∙ sym (names_l _ _ (omega arith))

pub returns-in_err-link-in-X : goal.returns-in_err-link-in-X
returns-in_err-link-in-X c = c.from_residual-in_err-link-in-X.ensures ∙ ap (option_map Cut) c.in_err-link-in-X.ensures ∙ sym (names_x _ _ (omega arith))

pub returns-in_ok-link-in-X : goal.returns-in_ok-link-in-X
returns-in_ok-link-in-X c = ap (option_map Cut) c.in_ok-link-in-X.ensures ∙ sym (names_x _ _ (omega arith))

pub returns-in-empty : goal.returns-in-empty
returns-in-empty c = sym (names_c _ _ (omega arith) (omega (arith, ltb-true)))

pub returns-in_default-rest : goal.returns-in_default-rest
returns-in_default-rest c = sym (names_c_more _ _ (omega arith) (omega (arith, ltb-false)))

pub returns-in_err-one_number-in-H : goal.returns-in_err-one_number-in-H
returns-in_err-one_number-in-H c =
    c.from_residual-in_err-one_number-in-H.ensures
    ∙ ap (given_number LongestRepair) c.in_err-one_number-in-H.ensures
    ∙ sym (names_h _ _ _ (omega arith) (omega arith))

pub overflow_cast-result-in-H : goal.overflow_cast-result-in-H
overflow_cast-result-in-H c = omega (arith, one_number_most _ _ _ (sym c.in_ok-one_number-in-H.ensures))

pub returns-in_ok-one_number-in-H : goal.returns-in_ok-one_number-in-H
returns-in_ok-one_number-in-H c = ap (given_number LongestRepair) c.in_ok-one_number-in-H.ensures ∙ sym (names_h _ _ _ (omega arith) (omega arith))

pub returns-in_default : goal.returns-in_default
returns-in_default c = sym (names_none _ _ (omega arith) (omega arith) (omega arith) (omega arith) (omega arith) (omega arith))

-- A line makes the call that it names, or none.
use Rattle.std.proofs.Common.{◌≡◌, ℕ, Some, None, Ok, Err, Option, Result, sym, refl, ap, ◌∙◌, arith}
use Rattle.std.specs.Option.{ok_or}
use Rattle.std.proofs.lemmas.Result.{err_from_is_err_and}
use Rattle.refusals.specs.declared.Refusal.{Refusal}
use Rattle.refusals.specs.declared.Refusal.TheVariants.{BadLine}
use Rattle.console.specs.Consoles.{network_in}
use Rattle.console.specs.Replies.{after_call, after_line, call_answer, line_answer, told_by}
use Rattle.console.specs.declared.line.Request.{Request}
use Rattle.console.proofs.console.Console.obey.Goals as goal

no_call : (o : Option Request) (e : Refusal) → ◌≡◌ {A = Result Request Refusal} (Err e) (ok_or o BadLine) → (o ≡ None) × (e ≡ BadLine)
no_call None e h = let same : e ≡ BadLine = cc in (refl, same)
no_call (Some r) e h = absurd (let z : ◌≡◌ {A = ℕ} 0 1 = cc in omega arith)

a_call : (o : Option Request) (r : Request) → ◌≡◌ {A = Result Request Refusal} (Ok r) (ok_or o BadLine) → Some r ≡ o
a_call None r h = absurd (let z : ◌≡◌ {A = ℕ} 0 1 = cc in omega arith)
a_call (Some x) r h = let same : r ≡ x = cc in ap Some same

pub returns-in_err-request : goal.returns-in_err-request
unfolding line_answer after_line
returns-in_err-request c =
    let n = network_in c.args.self.now in
    let p = err_from_is_err_and c.from_residual.result c.from_residual.ensures.1 in
    let none = no_call c.parse.result c.in_err-request.field-0.0 c.in_err-request.ensures.value in
    let is = sym none.0 ∙ c.parse.ensures in
    record {
      answer = ap told_by (p.1 ∙ ap Err (p.2 ∙ none.1)) ∙ ap (λ (o : Option Request). call_answer o n) is;
      after = ap (λ (o : Option Request). after_call o n) is;
    }

pub returns : goal.returns
unfolding line_answer after_line
returns c =
    let n = network_in c.args.self.now in
    let is = a_call c.parse.result c.in_ok-request.request c.in_ok-request.ensures.value ∙ c.parse.ensures in
    record {
      answer = c.call.ensures.answer ∙ ap (λ (o : Option Request). call_answer o n) is;
      after = c.call.ensures.after ∙ ap (λ (o : Option Request). after_call o n) is;
    }

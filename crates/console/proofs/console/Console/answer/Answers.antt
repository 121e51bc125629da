-- The line is obeyed and its reply written, unless the buffer is too short.
use Rattle.std.proofs.Common.{ℕ, ◌≤◌, List, [], length, IfOk, Some, Option, Result, sym, ap, ◌∙◌, subst, arith}
use Rattle.std.specs.Option.{ok_or}
use Rattle.std.proofs.lemmas.Bool.{le-ltb, lt-ltb}
use Rattle.refusals.specs.declared.Refusal.{Refusal}
use Rattle.refusals.specs.declared.Refusal.TheVariants.{BufferTooShort}
use Rattle.network.proofs.Dues.{answers_refusal, answers_value, hit, miss, unless_free, unless_refused}
use Rattle.text.specs.Placed.{placed}
use Rattle.console.specs.Consoles.{network_in}
use Rattle.console.specs.Replies.{line_answer, no_room, reply_text, too_short}
use Rattle.console.proofs.Written.{reply_few}
use Rattle.console.proofs.console.Console.answer.Goals as goal

pub returns-then-reply-lt-SHORTEST_BUFFER : goal.returns-then-reply-lt-SHORTEST_BUFFER
unfolding no_room
returns-then-reply-lt-SHORTEST_BUFFER c =
    let due = hit (too_short c.args.reply.now) [] (lt-ltb (length c.args.reply.now) 32 (omega arith)) in
    record {
      answer = answers_refusal _ BufferTooShort _ due;
      within = tt;
      buffer = unless_refused _ BufferTooShort _ c.args.reply.now due;
      after = unless_refused _ BufferTooShort _ (network_in c.args.self.now) due;
    }

pub returns : goal.returns
unfolding no_room
returns c =
    let due = miss (too_short c.args.reply.now) [] (le-ltb (length c.args.reply.now) 32 (omega arith)) in
    let n = network_in c.args.self.now in
    let said = c.obey-outcome.ensures.answer in
    let b = c.args.reply.now in
    let value = c.ok_or.ensures.value ∙ ap (λ (o : Option ℕ). ok_or o BufferTooShort) (c.write_reply.ensures.value ∙ ap (λ (a : Result (List ℕ) Refusal). Some (length (reply_text a))) said) in
    let P : Result ℕ Refusal → Type 0 = λ r. IfOk r (λ k. k ≤ length c.write_reply.new.buffer) in
    let room : length (reply_text (line_answer c.args.line.now n)) ≤ length c.write_reply.new.buffer = omega (arith, reply_few c.obey-outcome.result, ap (λ (a : Result (List ℕ) Refusal). length (reply_text a)) said) in
    record {
      answer = value ∙ answers_value _ _ due;
      within = subst P (sym value) room;
      buffer = c.write_reply.ensures.after ∙ ap (λ (a : Result (List ℕ) Refusal). placed 0 (reply_text a) b) said ∙ unless_free _ (placed 0 (reply_text (line_answer c.args.line.now n)) b) b due;
      after = c.obey-outcome.ensures.after ∙ unless_free _ _ n due;
    }

-- The parts of a total fit, and stand one after another.
use Rattle.std.proofs.Common.{ℕ, ◌+◌, ◌≤◌, List, [], ◌∷◌, ◌++◌, length, Some, ap, ◌∙◌, arith}
use Rattle.text.specs.Placed.{placed}
use Rattle.console.specs.Replies.{newline, reply_text}
use Rattle.console.proofs.Prints.{print_end, print_never, print_placed}
use Rattle.console.proofs.Written.{all_written, no_end, second_fits}
use Rattle.console.proofs.replies.write_total.Given as given
use Rattle.console.proofs.replies.write_total.Goals as goal
use Rattle.console.proofs.replies.write_total.Goals.{In_ok-start}

-- the letter and the space
abbrev first : ℕ → List ℕ
first letter = letter ∷ (32 ∷ [])

print_fits : (g : given.Over) (c : In_ok-start g) → c.in_ok-start.start + length (g.S.Scale.print c.args.sum.now) ≤ length c.put.new.buffer
print_fits g c =
    second_fits (first c.symbol.result) (g.S.Scale.print c.args.sum.now) c.args.buffer.now (omega arith)
    c.in_ok-start.start c.put.new.buffer c.in_ok-start.ensures.value c.put.ensures.after

pub returns-in_err-start : goal.returns-in_err-start
returns-in_err-start g c = absurd (no_end 0 (first c.symbol.result) c.args.buffer.now (omega arith) c.in_err-start.ensures.value)

pub slice_bounds-write-count : goal.slice_bounds-write-count
slice_bounds-write-count g c = omega (arith, print_fits g c)

pub slice_bounds-write-start : goal.slice_bounds-write-start
slice_bounds-write-start g c = omega (arith, print_fits g c)

pub returns-in_err-long : goal.returns-in_err-long
returns-in_err-long g c =
    absurd (print_never c.in_ok-start.start (g.S.Scale.print c.args.sum.now) c.put.new.buffer (print_fits g (goal.at.returns-in_err-long g c).In_ok-start) c.write.ensures.value c.in_err-long.ensures.value)

pub returns : goal.returns
unfolding reply_text
returns g c =
    let t = g.S.Scale.print c.args.sum.now in
    let b = c.args.buffer.now in
    let k = c.in_ok-start.start in
    let b_1 = c.put.new.buffer in
    let fits = print_fits g (goal.at.returns g c).In_ok-start in
    let w =
    all_written (first c.symbol.result) t b (omega arith) k b_1 c.in_ok-start.ensures.value c.put.ensures.after
    (k + c.in_ok-long.long) _ (ap (λ n. k + n) (print_end k t b_1 fits c.in_ok-long.long c.write.ensures.value c.in_ok-long.ensures.value)) (print_placed k t b_1 fits c.write.ensures.after)
    c.put-2.result c.put-2.new.buffer c.put-2.ensures.value c.put-2.ensures.after in
    record {
      value = w.0 ∙ ap (λ x. Some (length (first x ++ (t ++ newline)))) c.symbol.ensures;
      after = w.1 ∙ ap (λ x. placed 0 (first x ++ (t ++ newline)) b) c.symbol.ensures;
    }

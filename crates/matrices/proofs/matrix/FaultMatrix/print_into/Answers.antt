-- Each turn writes a space and a number, which have room.
use Rattle.std.proofs.Common.{◌+◌, ◌∷◌, length, get_or, decimal, ap, ◌∙◌, arith, rules}
use Rattle.matrices.proofs.Prints.{ends, front_all, front_first, length_front_more, printed_first, printed_more, rest_number, room_first, room_more}
use Rattle.matrices.proofs.matrix.FaultMatrix.print_into.Goals as goal
use Rattle.text.specs.Placed.{placed}

pub loop-n-init : goal.loop-n-init
loop-n-init c =
    let xs = c.args.self.now.entries in
    let end =
    c.unwrap_or-end.ensures
    ∙ ends c.put_decimal.result 0 0 (decimal (get_or xs 0 0)) c.args.buffer.now c.put_decimal.ensures.value (room_first xs (length c.args.buffer.now) (search rules) c.requires) in
    (omega (arith, ap length (front_first xs (search rules))), λ b room first. first)

pub put_after_space-end-requires : goal.put_after_space-end-requires
put_after_space-end-requires c =
    let xs = c.args.self.now.entries in
    let i = c.loop-n.n-index in
    let digits = ap (λ n. length (decimal n)) (rest_number xs i (omega arith)) in
    omega (arith, digits, c.loop-n.invariant.0, room_more xs (i + 1) (length c.loop-n.buffer) (omega arith) (omega arith) (search rules) (omega arith))

pub loop-n-preserved : goal.loop-n-preserved
loop-n-preserved c =
    let xs = c.args.self.now.entries in
    let i = c.loop-n.n-index in
    let number = rest_number xs i (omega arith) in
    let written = c.put_after_space-end.ensures.after ∙ ap (λ n. placed c.loop-n.end (32 ∷ decimal n) c.loop-n.buffer) number in (
      omega (arith, c.loop-n.invariant.0, ap (λ n. length (decimal n)) number, length_front_more xs (i + 1) (omega arith) (omega arith) (search rules)),
      λ b room first.
          printed_more xs (i + 1) c.loop-n.end b c.loop-n.buffer c.put_after_space-end.new.buffer
          (omega arith) (omega arith) (search rules) room c.loop-n.invariant.0 (c.loop-n.invariant.1 b room first) written,
    )

pub returns : goal.returns
returns c =
    let xs = c.args.self.now.entries in
    let all = front_all xs (c.loop-n.n-index + 1) (omega arith) in
    record {
      value = c.loop-n.invariant.0 ∙ ap length all;
      after = c.loop-n.invariant.1 c.args.buffer.now c.requires (printed_first xs c.args.buffer.now c.put_decimal.new.buffer (search rules) c.requires c.put_decimal.ensures.after) ∙ ap (λ t. placed 0 t c.args.buffer.now) all;
    }

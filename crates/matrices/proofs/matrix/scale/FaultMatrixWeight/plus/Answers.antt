-- Each call adds two entries.
use Rattle.std.proofs.Common.{◌≡◌, ◌+◌, ◌%◌, ◌^◌, get_or, arith, rules}
use Rattle.matrices.proofs.Values.{given, plus_value}
use Rattle.matrices.proofs.matrix.scale.FaultMatrixWeight.plus.Goals as goal

pub returns : goal.returns
returns c =
    let xs = c.args.self.now.entries in
    let ys = c.args.other.now.entries in
    plus_value xs ys c.from_fn.result
    (λ p h. given _ _ (λ i y. y ≡ (get_or xs i 0 + get_or ys i 0) % 2 ^ 64) (λ i y q called. search rules) c.from_fn.result 0 272 c.from_fn.ensures.items.each p (omega arith) (omega arith))

-- Each call gives one entry of the product.
use Rattle.std.proofs.Common.{◌≡◌, ◌/◌, ◌%◌, arith, rules}
use Rattle.matrices.specs.Values.{residue}
use Rattle.matrices.proofs.Values.{given, times_entry, times_value}
use Rattle.matrices.proofs.matrix.scale.FaultMatrixWeight.times.Goals as goal

pub returns : goal.returns
returns c =
    let xs = c.args.self.now.entries in
    let ys = c.args.other.now.entries in
    times_value xs ys c.from_fn.result
    (λ p h. given _ _ (λ i y. residue y ≡ times_entry xs ys (i / 16) (i % 16)) (λ i y q called. search rules) c.from_fn.result 0 272 c.from_fn.ensures.items.each p (omega arith) (omega arith))

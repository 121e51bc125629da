-- The and of the words is not 0 where it has a bit that is 1: a number in both sets.
use Rattle.std.proofs.Common.{◌&&◌, sym, ◌∙◌, arith}
use lib.Bits.{bit_and, and_le_l}
use Rattle.sets.specs.Sets.{member, overlap}
use Rattle.sets.proofs.Digits.{bit_of_and, nonzero_any}
use Rattle.sets.proofs.Members.{word_tells}
use Rattle.sets.proofs.TrioSet.meets.Goals as goal

pub returns : goal.returns
unfolding overlap
returns c =
    let s = c.args.self in let t = c.args.other in
    nonzero_any (λ k. member s k && member t k) 16 0 (bit_and s.bits t.bits) (omega (arith, and_le_l s.bits t.bits))
    (λ k h. (λ i. word_tells s k h i && word_tells t k h i) ∙ sym (bit_of_and s.bits t.bits k))

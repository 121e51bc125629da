-- Taking out by xor what is in both leaves the bits that are 1 here and 0 there.
use Rattle.std.proofs.Common.{◌≡◌, Bool, true, false, cond, not, ◌&&◌, ltb, refl, ap, ◌∙◌}
use lib.Bits.{bit_and}
use Rattle.sets.specs.Sets.{member}
use Rattle.sets.proofs.Digits.{bit, bit_of_and, bit_of_xor}
use Rattle.sets.proofs.TrioSet.difference.Goals as goal

taken : (b x y : Bool) → (b && cond (x && y) (not x) x) ≡ ((b && x) && not (b && y))
taken false x y = refl
taken true false y = refl
taken true true true = refl
taken true true false = refl

pub returns : goal.returns
unfolding member
returns c k =
    let a = c.args.self.bits in let b = c.args.other.bits in
    ap (λ x. ltb k 16 && x) (bit_of_xor a (bit_and a b) k ∙ ap (λ x. cond x (not (bit a k)) (bit a k)) (bit_of_and a b k))
    ∙ taken (ltb k 16) (bit a k) (bit b k)

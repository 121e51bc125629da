-- A bit of the or is 1 where one of the two is.
use Rattle.std.proofs.Common.{◌≡◌, Bool, true, false, ◌&&◌, ◌||◌, ltb, refl, ap, ◌∙◌}
use Rattle.sets.specs.Sets.{member}
use Rattle.sets.proofs.Digits.{bit, bit_of_or}
use Rattle.sets.proofs.TrioSet.union.Goals as goal

spread : (b x y : Bool) → (b && (x || y)) ≡ ((b && x) || (b && y))
spread true x y = refl
spread false x y = refl

pub returns : goal.returns
unfolding member
returns c k =
    let a = c.args.self.bits in let b = c.args.other.bits in
    ap (λ x. ltb k 16 && x) (bit_of_or a b k) ∙ spread (ltb k 16) (bit a k) (bit b k)

-- Taking out by xor what is at bit i clears it and leaves the others; a number from 16 on is no member.
use Rattle.std.proofs.Common.{◌≡◌, ℕ, ◌*◌, ◌%◌, ◌^◌, ◌≤◌, Bool, true, false, cond, not, ◌&&◌, eqb, ltb, refl, ap, ◌∙◌, arith}
use lib.Bits.{bit_and}
use Rattle.std.proofs.lemmas.Nat.{one_shl}
use Rattle.std.proofs.lemmas.Bool.Decides.{nat_tests}
use Rattle.sets.specs.Sets.{member}
use Rattle.sets.proofs.Digits.{bit, bit_of_and, bit_of_xor, bit_pow}
use Rattle.sets.proofs.TrioSet.without.Goals as goal

cleared : (b x e : Bool) → (b && cond (x && e) (not x) x) ≡ ((b && x) && not e)
cleared false x e = refl
cleared true true true = refl
cleared true true false = refl
cleared true false e = refl

pub returns-then-i-lt16 : goal.returns-then-i-lt16
unfolding member
returns-then-i-lt16 c k =
    let a = c.args.self.bits in let i = c.args.i in
    let m = (1 * 2 ^ i) % 2 ^ 16 in
    let mask : bit m k ≡ eqb k i = ap (λ n. bit n k) (one_shl i 16 c.if-i-lt16.true) ∙ bit_pow i k in
    ap (λ x. ltb k 16 && x) (bit_of_xor a (bit_and a m) k ∙ ap (λ x. cond x (not (bit a k)) (bit a k)) (bit_of_and a m k ∙ ap (λ e. bit a k && e) mask))
    ∙ cleared (ltb k 16) (bit a k) (eqb k i)

past : (i k : ℕ) (x : Bool) → 16 ≤ i → (ltb k 16 && x) ≡ ((ltb k 16 && x) && not (eqb k i))
past i k x h = grind (arith, nat_tests)

pub returns-else-i-lt16 : goal.returns-else-i-lt16
unfolding member
returns-else-i-lt16 c k = past c.args.i k (bit c.args.self.bits k) c.if-i-lt16.false

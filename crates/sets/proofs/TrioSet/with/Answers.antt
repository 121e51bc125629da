-- The or with 2 ^ i sets bit i, and leaves the others.
use Rattle.std.proofs.Common.{◌≡◌, ℕ, ◌*◌, ◌%◌, ◌^◌, ◌<◌, Bool, ◌&&◌, ◌||◌, eqb, ltb, ap, ◌∙◌, arith}
use Rattle.std.proofs.lemmas.Nat.{one_shl}
use Rattle.std.proofs.lemmas.Bool.Decides.{nat_tests}
use Rattle.sets.specs.Sets.{member}
use Rattle.sets.proofs.Digits.{bit, bit_of_or, bit_pow}
use Rattle.sets.proofs.TrioSet.with.Goals as goal

spread : (i k : ℕ) (x : Bool) → i < 16 → (ltb k 16 && (x || eqb k i)) ≡ ((ltb k 16 && x) || (eqb k i && ltb i 16))
spread i k x h = grind (arith, nat_tests)

pub returns-then-i-lt16 : goal.returns-then-i-lt16
unfolding member
returns-then-i-lt16 c k =
    let a = c.args.self.bits in let i = c.args.i in
    ap (λ x. ltb k 16 && x) (bit_of_or a ((1 * 2 ^ i) % 2 ^ 16) k ∙ ap (λ x. bit a k || x) (ap (λ n. bit n k) (one_shl i 16 c.if-i-lt16.true) ∙ bit_pow i k))
    ∙ spread i k (bit a k) c.if-i-lt16.true

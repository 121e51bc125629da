-- The and with the ones below 2 ^ n clears the bits from n on.
use Rattle.std.proofs.Common.{◌≡◌, ◌-◌, ◌*◌, ◌%◌, ◌^◌, Bool, true, false, ◌&&◌, ltb, sym, refl, ap, ◌∙◌, ⊎_elim, arith}
use Rattle.std.proofs.lemmas.Nat.{one_shl}
use Rattle.std.proofs.lemmas.Bool.{and_from, cases_Bool, lt-ltb}
use Rattle.sets.specs.Sets.{member}
use Rattle.sets.proofs.Digits.{bit, bit_of_and, bit_ones}
use Rattle.sets.proofs.Members.{member_below}
use Rattle.sets.proofs.TrioSet.below.Goals as goal

grouped : (x y z : Bool) → (x && (y && z)) ≡ ((x && y) && z)
grouped true y z = refl
grouped false y z = refl

pub returns-then-n-lt16 : goal.returns-then-n-lt16
unfolding member
returns-then-n-lt16 c k =
    let a = c.args.self.bits in let n = c.args.n in
    ap (λ x. ltb k 16 && x) (bit_of_and a ((1 * 2 ^ n) % 2 ^ 16 - 1) k ∙ ap (λ x. bit a k && x) (ap (λ x. bit (x - 1) k) (one_shl n 16 c.if-n-lt16.true) ∙ bit_ones n k))
    ∙ grouped (ltb k 16) (bit a k) (ltb k n)

pub returns-else-n-lt16 : goal.returns-else-n-lt16
returns-else-n-lt16 c k =
    let s = c.args.self in
    ⊎_elim
    (λ h. let within = member_below s k h in h ∙ sym (and_from (member s k) (ltb k c.args.n) h (lt-ltb k c.args.n (omega (arith, within, c.if-n-lt16.false)))))
    (λ h. h ∙ sym (ap (λ b. b && ltb k c.args.n) h))
    (cases_Bool (member s k))

-- The lowest bit of the shifted word is bit i, and from 16 on nothing is a member.
use Rattle.std.proofs.Common.{◌/◌, ◌^◌, eqb, sym, ap, ◌∙◌}
use lib.Bits.{and_mask}
use Rattle.std.proofs.lemmas.Bool.{le-ltb}
use Rattle.sets.proofs.Members.{member_past, member_bit}
use Rattle.sets.proofs.TrioSet.contains.Goals as goal

pub returns-then-i-lt16 : goal.returns-then-i-lt16
returns-then-i-lt16 c =
    ap (λ x. eqb x 1) (and_mask (c.args.self.bits / 2 ^ c.args.i) 1)
    ∙ sym (member_bit c.args.self c.args.i c.if-i-lt16.true)

pub returns-else-i-lt16 : goal.returns-else-i-lt16
returns-else-i-lt16 c = le-ltb c.args.i 16 c.if-i-lt16.false ∙ sym (member_past c.args.self c.args.i c.if-i-lt16.false)

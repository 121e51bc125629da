-- The lowest 1 of the word is the first member, and a word of zeros has none.
use Rattle.std.proofs.Common.{◌≡◌, ◌+◌, ◌^◌, ◌<◌, Some, None, sym, ap, ◌∙◌, arith}
use lib.Count.{count_trailing_zeros}
use Rattle.sets.specs.declared.TrioSet.{TrioSet}
use Rattle.sets.specs.Lists.{first_of}
use Rattle.sets.specs.Sets.{member, members}
use Rattle.sets.proofs.Digits.{bit, bit_none, trailing_first}
use Rattle.sets.proofs.Kept.{kept_none}
use Rattle.sets.proofs.Members.{word_tells, member_bit}
use Rattle.sets.proofs.TrioSet.first.Goals as goal

none : (s : TrioSet) → s.bits ≡ 0 → None ≡ first_of (members s)
unfolding members
none s e = ap first_of (sym (kept_none (member s) 0 16 (λ k _ u. member_bit s k (omega arith) ∙ ap (λ n. bit n k) e ∙ bit_none k)))

lowest : (s : TrioSet) → s.bits < 2 ^ 16 → (s.bits ≡ 0 → ⊥) → Some (count_trailing_zeros 16 s.bits) ≡ first_of (members s)
unfolding members
lowest s h ne =
    let on : count_trailing_zeros 16 s.bits ≡ 0 + count_trailing_zeros 16 s.bits = omega arith in
    ap Some on ∙ trailing_first (member s) 16 0 s.bits h ne (word_tells s)

pub returns-then-self-eq0 : goal.returns-then-self-eq0
returns-then-self-eq0 c = none c.args.self c.if-self-eq0.true

pub returns : goal.returns
returns c = lowest c.args.self (omega arith) c.if-self-eq0.false

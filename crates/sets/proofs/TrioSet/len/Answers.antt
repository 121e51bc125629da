-- The ones of the word are its members, one for one.
use Rattle.std.proofs.Common.{◌≡◌, ◌^◌, ◌<◌, length, arith}
use lib.Count.{ones}
use Rattle.sets.specs.declared.TrioSet.{TrioSet}
use Rattle.sets.specs.Sets.{member, members}
use Rattle.sets.proofs.Digits.{ones_kept}
use Rattle.sets.proofs.Members.{word_tells}
use Rattle.sets.proofs.TrioSet.len.Goals as goal

counted : (s : TrioSet) → s.bits < 2 ^ 16 → ones s.bits ≡ length (members s)
unfolding members
counted s h = ones_kept (member s) 16 0 s.bits h (word_tells s)

pub returns : goal.returns
returns c = counted c.args.self (omega arith)

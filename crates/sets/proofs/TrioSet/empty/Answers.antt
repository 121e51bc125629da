-- No bit of 0 is 1.
use Rattle.std.proofs.Common.{ltb}
use Rattle.std.proofs.lemmas.Bool.{and_right}
use Rattle.sets.specs.Sets.{member}
use Rattle.sets.proofs.Digits.{bit, bit_none}
use Rattle.sets.proofs.TrioSet.empty.Goals as goal

pub returns : goal.returns
unfolding member
returns c k = and_right (ltb k 16) (bit 0 k) (bit_none k)

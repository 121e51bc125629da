-- The remainder of the sum is the sum of the remainders, modulo 97.
use Rattle.std.proofs.Common.{lit<, arith}
use Rattle.scales.specs.RemaindersLemmas.{plus_from}
use Rattle.trials.proofs.residue.ResidueWeight.plus.Goals as goal

pub returns : goal.returns
returns c = plus_from 97 (lit< tt) c.args.self.now.n c.args.other.now.n (omega arith)

-- The wrapped sum has the remainder of the sum.
use Rattle.std.proofs.Common.{refl, lit<}
use Rattle.scales.specs.Counts.{count_limit}
use Rattle.scales.specs.RemaindersLemmas.{plus_from}
use Rattle.scales.proofs.count.CountWeight.plus.Goals as goal

pub returns : goal.returns
returns c = plus_from count_limit (lit< tt) c.args.self.now.n c.args.other.now.n refl

-- The wrapped product has the remainder of the product.
use Rattle.std.proofs.Common.{refl, lit<}
use Rattle.scales.specs.Counts.{count_limit}
use Rattle.scales.specs.RemaindersLemmas.{times_from}
use Rattle.scales.proofs.count.CountWeight.times.Goals as goal

pub returns : goal.returns
returns c = times_from count_limit (lit< tt) c.args.self.now.n c.args.other.now.n refl

-- The sum that the code holds at the most hours is the sum of the values, held there.
use Rattle.std.proofs.Common.{ap, arith}
use Rattle.scales.specs.Durations.{lasts}
use Rattle.scales.specs.BoundedLemmas.{bounded_same}
use Rattle.scales.proofs.hours.HoursWeight.times.Goals as goal

pub returns : goal.returns
returns c =
    rw (c.in-Some-Some.is-0, c.in-Some-Some.is-1) (ap lasts (bounded_same _ _ (omega arith)))

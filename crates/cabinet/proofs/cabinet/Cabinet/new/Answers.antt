-- An empty cabinet is within the limits.
use Rattle.cabinet.proofs.Calls.{empty_within}
use Rattle.cabinet.proofs.cabinet.Cabinet.new.Goals as goal

pub invariant_of-result : goal.invariant_of-result
invariant_of-result c = record { limits = empty_within c.new.result c.new-2.result c.none.result c.new.ensures c.new-2.ensures c.none.ensures }

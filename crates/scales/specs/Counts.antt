-- Counts, which are numbers modulo 2^64.
use Rattle.std.specs.Prelude.{ℕ, ◌^◌, List, decimal}
use Rattle.std.proofs.Common.{lit<}
use Rattle.algebra.specs.Laws.{Kind}
use Rattle.scales.specs.Bounded.{Bounded}
use Rattle.scales.specs.Remainders.{reduced, modulo}
use Rattle.scales.specs.declared.count.Count.{Count}

-- how many counts there are
abbrev pub count_limit : ℕ
count_limit = 2 ^ 64

abbrev pub counts : Kind
counts = modulo count_limit (lit< tt)

abbrev pub count_value : Count → Bounded count_limit
count_value c = reduced count_limit (lit< tt) c.n

-- a count in decimal digits
abbrev pub count_print : Bounded count_limit → List ℕ
count_print v = decimal v.number

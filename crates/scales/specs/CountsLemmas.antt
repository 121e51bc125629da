-- Counts keep the laws of a scale.
use Rattle.std.proofs.Common.{lit<}
use Rattle.algebra.specs.Laws.{Laws}
use Rattle.scales.specs.Counts.{count_limit, counts}
use Rattle.scales.specs.RemaindersLemmas.{modulo_laws}

pub counts_laws : Laws counts
counts_laws = modulo_laws count_limit (lit< tt)

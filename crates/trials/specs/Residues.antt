-- Numbers modulo 97.
use Rattle.std.specs.Prelude.{ℕ, List, decimal}
use Rattle.std.proofs.Common.{lit<}
use Rattle.algebra.specs.Laws.{Kind}
use Rattle.scales.specs.Bounded.{Bounded}
use Rattle.scales.specs.Remainders.{modulo, reduced}
use Rattle.trials.specs.declared.residue.Residue.{Residue}

abbrev pub residues : Kind
residues = modulo 97 (lit< tt)

-- the remainder of a number
abbrev pub remainder : ℕ → Bounded 97
remainder n = reduced 97 (lit< tt) n

abbrev pub residue_value : Residue → Bounded 97
residue_value x = remainder x.n

-- the remainder in decimal digits
abbrev pub residue_print : Bounded 97 → List ℕ
residue_print v = decimal v.number

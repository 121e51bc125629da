-- An array of N records with none of them counted.
use Rattle.std.proofs.Common.{refl, arith}
use lib.ListN.{length-replicate}
use Rattle.wiring.specs.Tables.{codes}
use Rattle.wiring.proofs.table.TrioTable.new.Goals as goal

pub invariant_of-result : goal.invariant_of-result
invariant_of-result g c = record { long = length-replicate g.row.N _; fits = omega arith }

pub returns : goal.returns
unfolding codes
returns g c = refl

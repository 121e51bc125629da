-- What is held so far is joined to the start, and the start is held; each turn adds a trio, of which there are 32.
use Rattle.std.proofs.Common.{◌-◌}
use Rattle.network.specs.declared.Trio.{Trio}
use Rattle.wiring.proofs.Closure.{Fits, Only, Sound, Started, size}
use Rattle.wiring.proofs.links.Links.cell_around.Given as goal

abbrev pub invariant-loop-grown : goal.invariant-loop-grown
invariant-loop-grown l = Fits l.cell × ((t : Trio) → Only t l.initial.cell → Sound l.self t l.cell × Started t l.cell)

abbrev pub decreases-loop-grown : goal.decreases-loop-grown
decreases-loop-grown l = 32 - size l.cell

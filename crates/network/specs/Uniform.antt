-- Weights that are alike for many trios.
use Rattle.std.specs.Prelude.{◌+◌, List, ◌++◌, replicate}
use Rattle.algebra.specs.Laws.{Kind}
use Rattle.network.specs.Networks.{Network, module_count, voter_count}
use Rattle.network.specs.Patterns.{State, whole, at, Weights}

-- one weight for a whole trio, and one for a faulty trio at whichever position
abbrev pub alike : {V : Type 0} → V → V → State → V
alike sound faulty whole = sound
alike sound faulty (at p) = faulty

-- the same two weights for each trio
unfoldable pub uniform : (k : Kind) → Network → k.Value → k.Value → List (Weights k)
uniform k n sound faulty = replicate (voter_count n + module_count n) (alike sound faulty)

-- the same weights for each voter trio, and the same for each module trio
unfoldable pub by_role : (k : Kind) → Network → Weights k → Weights k → List (Weights k)
by_role k n voter place = replicate (voter_count n) voter ++ replicate (module_count n) place

-- The totals that the console is asked for: the weights of all trios are the same.
use Rattle.std.specs.Prelude.{ℕ, ◌+◌, List, replicate}
use Rattle.algebra.specs.Laws.{Kind}
use Rattle.network.specs.Networks.{Network, module_count, voter_count}
use Rattle.network.specs.Patterns.{State, whole, at, Weights, total}
use Rattle.scales.specs.Bounded.{Bounded}
use Rattle.scales.specs.Counts.{counts, count_limit}
use Rattle.scales.specs.Durations.{Duration, lasts, durations, held, most_hours}

-- one weight for a whole trio, and one for a faulty trio at whichever position
abbrev pub alike : {V : Type 0} → V → V → State → V
alike sound faulty whole = sound
alike sound faulty (at p) = faulty

-- the same two weights for each trio
unfoldable pub uniform : (k : Kind) → Network → k.Value → k.Value → List (Weights k)
uniform k n sound faulty = replicate (voter_count n + module_count n) (alike sound faulty)

-- how many fault patterns are tolerated, modulo 2^64: each weighs 1
unfoldable pub pattern_count : Network → Bounded count_limit
pattern_count n = total counts n (uniform counts n counts.unit counts.unit)

abbrev pub lasting : ℕ → Duration most_hours
lasting hours = lasts (held most_hours hours)

-- the longest repair of a tolerated pattern, where each faulty trio takes these hours
unfoldable pub longest_repair : ℕ → Network → Duration most_hours
longest_repair hours n = total durations n (uniform durations n (lasting 0) (lasting hours))

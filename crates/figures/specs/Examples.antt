-- Small networks, and weights for their trios. Voter trios have the part code 7 and module trios 9.
use Rattle.std.specs.Prelude.{ℕ, List, [], ◌∷◌, map}
use Rattle.network.specs.Networks.{Network, trios}
use Rattle.network.specs.Patterns.{A, B, C, Weights, at, whole}
use Rattle.scales.specs.Counts.{counts}
use Rattle.scales.specs.Durations.{Duration, durations, held, lasts, most_hours}

-- a voter and a module that it does not feed
abbrev pub apart : Network
apart = record { voters = 7 ∷ []; modules = 9 ∷ []; links = [] }

-- a voter and the module that it feeds
abbrev pub pair : Network
pair = record { voters = 7 ∷ []; modules = 9 ∷ []; links = (0, 0) ∷ [] }

-- a voter that feeds two modules
abbrev pub fork : Network
fork = record { voters = 7 ∷ []; modules = 9 ∷ (9 ∷ []); links = (0, 0) ∷ ((0, 1) ∷ []) }

-- two voters that feed one module
abbrev pub meeting : Network
meeting = record { voters = 7 ∷ (7 ∷ []); modules = 9 ∷ []; links = (0, 0) ∷ ((1, 0) ∷ []) }

-- four voters and three modules with seven links
abbrev pub mesh : Network
mesh = record {
  voters = 7 ∷ (7 ∷ (7 ∷ (7 ∷ [])));
  modules = 9 ∷ (9 ∷ (9 ∷ []));
  links = (0, 0) ∷ ((1, 0) ∷ ((1, 1) ∷ ((2, 1) ∷ ((2, 2) ∷ ((3, 1) ∷ ((3, 2) ∷ []))))));
}

-- weight 1 for each state of each trio: a total then counts the patterns
abbrev pub ones : Network → List (Weights counts)
ones n = map (λ t s. counts.unit) (trios n)

-- a number of hours
abbrev pub hours : ℕ → Duration most_hours
hours n = lasts (held most_hours n)

-- no hours for a whole trio, and these for one that is faulty at A, at B or at C
abbrev pub repair : ℕ → ℕ → ℕ → Weights durations
repair a b c whole = hours 0
repair a b c (at A) = hours a
repair a b c (at B) = hours b
repair a b c (at C) = hours c

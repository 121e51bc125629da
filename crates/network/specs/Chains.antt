-- Chains of links, and the test for them.
use Rattle.std.specs.Prelude.{◌≡◌, Bool, true, false, ◌&&◌, ◌||◌, List, [], ◌∷◌, ◌==◌}
use Rattle.sets.specs.Lists.{any}
use Rattle.network.specs.declared.Trio.{Trio}
use Rattle.network.specs.declared.Trio.TheVariants.{Voter, Module}

abbrev pub same_trio : Trio → Trio → Bool
same_trio (Voter v) (Voter w) = v == w
same_trio (Voter v) (Module m) = false
same_trio (Module m) (Voter v) = false
same_trio (Module m) (Module k) = m == k

-- A link between any two trios.
abbrev pub Edge : Type 0
Edge = Trio × Trio

-- the edge has its ends at t and u, either way round
abbrev pub ends_at : Trio → Trio → Edge → Bool
ends_at t u e = (same_trio e.0 t && same_trio e.1 u) || (same_trio e.0 u && same_trio e.1 t)

-- A chain from one trio to another: any number of edges, each taken either way.
pub data Chain (es : List Edge) : Trio → Trio → Type 0 where
  none : {t : Trio} → Chain es t t
  more : {t u w : Trio} → any (ends_at t u) es ≡ true → Chain es u w → Chain es t w

-- whether a chain joins two trios: it does without the first edge, or goes through it one way or the other
unfoldable pub joined : List Edge → Trio → Trio → Bool
joined [] t u = same_trio t u
joined (e ∷ es) t u =
    joined es t u || ((joined es t e.0 && joined es e.1 u) || (joined es t e.1 && joined es e.0 u))

-- the test is right
abbrev pub ChainsAgree : Type 0
ChainsAgree = (es : List Edge) (t u : Trio) → (Chain es t u → joined es t u ≡ true) × (joined es t u ≡ true → Chain es t u)

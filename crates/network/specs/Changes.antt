-- What each changing call does to the network, and when it is refused.
use Rattle.std.specs.Prelude.{◌≡◌, ℕ, Bool, true, not, List, [], ◌∷◌, ◌++◌, Some, None, Option, nat_le, nat_lt, slice_set}
use Rattle.network.specs.Cells.{width}
use Rattle.network.specs.Limits.{most_voters, most_modules, widest, within_limits}
use Rattle.network.specs.Networks.{Network, voter_count, module_count, has_voter, has_module, linked, with_link, without_link}
use Rattle.refusals.specs.Refusals.{Check, first_due}
use Rattle.refusals.specs.declared.Refusal.{Refusal}
use Rattle.refusals.specs.declared.Refusal.TheVariants.{VotersFull, ModulesFull, NoVoter, NoModule, LinkStands, NoLink, CellTooWide}
use Rattle.network.specs.declared.Trio.{Trio}
use Rattle.network.specs.declared.Trio.TheVariants.{Voter, Module}

-- A changing call with its arguments.
pub data Change : Type 0 where
  add_voter : ℕ → Change
  add_module : ℕ → Change
  link : ℕ → ℕ → Change
  cut : ℕ → ℕ → Change
  change_part : Trio → ℕ → Change

-- the trio is not there
abbrev pub absent : Trio → Network → Check
absent (Voter v) n = (not (has_voter n v), NoVoter)
absent (Module m) n = (not (has_module n m), NoModule)

-- the link would make a cell that is too wide
abbrev pub too_wide : ℕ → ℕ → Network → Bool
too_wide v m n = nat_lt widest (width (with_link v m n) (Voter v))

-- the checks of a call, in order
abbrev pub checks : Change → Network → List Check
checks (add_voter code) n = (nat_le most_voters (voter_count n), VotersFull) ∷ []
checks (add_module code) n = (nat_le most_modules (module_count n), ModulesFull) ∷ []
checks (link v m) n = absent (Voter v) n ∷ (absent (Module m) n ∷ ((linked n v m, LinkStands) ∷ ((too_wide v m n, CellTooWide) ∷ [])))
checks (cut v m) n = absent (Voter v) n ∷ (absent (Module m) n ∷ ((not (linked n v m), NoLink) ∷ []))
checks (change_part t code) n = absent t n ∷ []

-- what the call does where it is not refused
abbrev pub changed : Change → Network → Network
changed (add_voter code) n = record { voters = n.voters ++ (code ∷ []); modules = n.modules; links = n.links }
changed (add_module code) n = record { voters = n.voters; modules = n.modules ++ (code ∷ []); links = n.links }
changed (link v m) n = with_link v m n
changed (cut v m) n = without_link v m n
changed (change_part (Voter v) code) n = record { voters = slice_set n.voters v code; modules = n.modules; links = n.links }
changed (change_part (Module m) code) n = record { voters = n.voters; modules = slice_set n.modules m code; links = n.links }

-- the refusal that is due, if any
unfoldable pub refusal : Change → Network → Option Refusal
refusal change n = first_due (checks change n)

-- what is there after a call: what it does, or where it is refused what was there before
abbrev pub unless : {X : Type 0} → Option Refusal → X → X → X
unless None done kept = done
unless (Some e) done kept = kept

-- the network after the call
unfoldable pub network_after : Change → Network → Network
network_after change n = unless (refusal change n) (changed change n) n

-- no call takes a network over the limits
abbrev pub LimitsKept : Type 0
LimitsKept = (change : Change) (n : Network) → within_limits n ≡ true → within_limits (network_after change n) ≡ true

-- What each question answers.
use Rattle.std.specs.Prelude.{ℕ, ◌+◌, Bool, not, List, [], ◌∷◌, length, Result, ◌==◌, nat_le}
use Rattle.algebra.specs.Laws.{Kind}
use Rattle.network.specs.Cells.{Members, cell_at, cell_count, cell_of}
use Rattle.network.specs.Changes.{absent}
use Rattle.network.specs.Networks.{Network, code_of, linked, module_count, voter_count}
use Rattle.network.specs.Patterns.{Weights, total}
use Rattle.refusals.specs.Refusals.{Check, answered, first_due}
use Rattle.refusals.specs.declared.Refusal.{Refusal}
use Rattle.refusals.specs.declared.Refusal.TheVariants.{NoCell, WeightsMismatch}
use Rattle.network.specs.declared.Trio.{Trio}
use Rattle.network.specs.declared.Trio.TheVariants.{Voter, Module}

-- the part code of a trio
abbrev pub code_answer : Network → Trio → Result ℕ Refusal
code_answer n t = answered (first_due (absent t n ∷ [])) (code_of n t)

-- whether a link stands
abbrev pub link_answer : Network → ℕ → ℕ → Result Bool Refusal
link_answer n v m = answered (first_due (absent (Voter v) n ∷ (absent (Module m) n ∷ []))) (linked n v m)

-- the number of a trio's cell
abbrev pub cell_of_answer : Network → Trio → Result ℕ Refusal
cell_of_answer n t = answered (first_due (absent t n ∷ [])) (cell_of n t)

-- the cell is not there
abbrev pub no_cell : ℕ → Network → Check
no_cell c n = (nat_le (cell_count n) c, NoCell)

-- the voter trios and the module trios of a cell
abbrev pub cell_answer : Network → ℕ → Result Members Refusal
cell_answer n c = answered (first_due (no_cell c n ∷ [])) (cell_at n c)

-- there is not exactly one entry of weights for each trio
abbrev pub weights_mismatch : ℕ → Network → Check
weights_mismatch entries n = (not (entries == voter_count n + module_count n), WeightsMismatch)

-- the total, for so many weights
abbrev pub total_answer : (k : Kind) → Network → List (Weights k) → Result k.Value Refusal
total_answer k n ws = answered (first_due (weights_mismatch (length ws) n ∷ [])) (total k n ws)

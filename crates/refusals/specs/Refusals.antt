-- What each refusal tells, and which of several is due.
use Rattle.std.specs.Prelude.{ℕ, Bool, cond, List, [], ◌∷◌, Some, None, Ok, Err, Option, Result}
use Rattle.refusals.specs.declared.Refusal.{Refusal}
use Rattle.refusals.specs.declared.Refusal.TheVariants.{VotersFull, ModulesFull, NoVoter, NoModule, LinkStands, NoLink, CellTooWide, NoCell, WeightsMismatch, BufferTooShort, BadLine}

-- each case with its number and the values that go with it
abbrev pub told : Refusal → ℕ × List ℕ
told VotersFull = (1, [])
told ModulesFull = (2, [])
told NoVoter = (3, [])
told NoModule = (4, [])
told LinkStands = (5, [])
told NoLink = (6, [])
told CellTooWide = (7, [])
told NoCell = (8, [])
told WeightsMismatch = (9, [])
told BufferTooShort = (26, [])
told BadLine = (30, [])

abbrev pub number : Refusal → ℕ
number e = (told e).0

-- A check of a call: the test under which a refusal is due.
abbrev pub Check : Type 0
Check = Bool × Refusal

-- Of the checks in a list, the first whose test holds decides.
abbrev pub first_due : List Check → Option Refusal
first_due [] = None
first_due (c ∷ cs) = cond c.0 (Some c.1) (first_due cs)

-- the answer of a call: the refusal that is due, or else the value
abbrev pub answered : {X : Type 0} → Option Refusal → X → Result X Refusal
answered None x = Ok x
answered (Some e) x = Err e

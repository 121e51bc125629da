-- The weights that entries stand for, weights position by position, and the trios that have an entry.
use Rattle.std.specs.Prelude.{◌≡◌, ℕ, List, map, filter, Some, slice_get}
use Rattle.std.specs.List.{range_with_len}
use Rattle.algebra.specs.Laws.{Kind}
use Rattle.network.specs.Cells.{Members}
use Rattle.network.specs.Patterns.{Position, A, B, C, State, whole, at}
use Rattle.sets.specs.Sets.{member}
use Rattle.sets.specs.declared.TrioSet.{TrioSet}
use Rattle.wiring.specs.declared.cell.Cell.{Cell}
use Rattle.weighing.specs.declared.weights.PerPosition.{PerPosition}
use Rattle.weighing.specs.declared.weights.Weights.{Weights as Entry}

module _ {W V : Type 0} (value : W → V) where
  -- the value at a position
  abbrev pub at_position : PerPosition W → Position → V
  at_position p A = value p.a
  at_position p B = value p.b
  at_position p C = value p.c

  -- the weight in each state
  abbrev pub read : Entry W → State → V
  read w whole = value w.whole
  read w (at p) = at_position w.faulty p

  abbrev pub read_all : List (Entry W) → List (State → V)
  read_all ws = map read ws

-- a kind of weight position by position: its values are one for each position
abbrev pub each_position : Kind → Kind
each_position k = record {
  Value = Position → k.Value;
  plus = λ x y p. k.plus (x p) (y p);
  times = λ x y p. k.times (x p) (y p);
  nothing = λ p. k.nothing;
  unit = λ p. k.unit;
}

-- what is returned at an element of a list stands for f at its place
abbrev pub ReturnsByPlace : {X R V : Type 0} → (X → R → Type 0) → (R → V) → List X → (ℕ → V) → Type 0
ReturnsByPlace {X} {R} returns value xs f = (i : ℕ) (x : X) (r : R) → slice_get xs i ≡ Some x → returns x r → value r ≡ f i

-- the members of a set below n
unfoldable pub first_members : TrioSet → ℕ → List ℕ
first_members s n = filter (member s) (range_with_len 0 n)

-- a cell without the voter trios from v on and the module trios from m on
abbrev pub shown_below : ℕ → ℕ → Cell → Members
shown_below v m c = (first_members c.voters v, first_members c.modules m)

-- an entry with one weight for whole and one for each position
abbrev pub entry_of : {W : Type 0} → W → W → Entry W
entry_of sound fault = record { whole = sound; faulty = record { a = fault; b = fault; c = fault } }

-- Durations in hours.
use Rattle.std.specs.Prelude.{ℕ, ◌+◌, ◌-◌, ◌^◌, min, cond, List, [], ◌∷◌, decimal, nat_lt, Option, Some, None}
use Rattle.std.proofs.Common.{arith}
use Rattle.algebra.specs.Laws.{Kind}
use Rattle.scales.specs.Bounded.{Bounded, bounded}
use Rattle.scales.specs.declared.hours.Hours.{Hours}

-- Never, or a number of hours up to `top`.
pub data Duration (top : ℕ) : Type 0 where
  never : Duration top
  lasts : Bounded (top + 1) → Duration top

module _ (top : ℕ) where
  -- a number of hours, held at `top`
  abbrev pub held : ℕ → Bounded (top + 1)
  held n = bounded (top + 1) (min n top) (omega arith)

  abbrev pub greater : Bounded (top + 1) → Bounded (top + 1) → Bounded (top + 1)
  greater a b = cond (nat_lt a.number b.number) b a

  -- the longer of two; never is the shortest
  abbrev pub longer : Duration top → Duration top → Duration top
  longer never y = y
  longer (lasts a) never = lasts a
  longer (lasts a) (lasts b) = lasts (greater a b)

  -- one after the other, held at `top`; never where one of the two is
  abbrev pub in_turn : Duration top → Duration top → Duration top
  in_turn never y = never
  in_turn (lasts a) never = never
  in_turn (lasts a) (lasts b) = lasts (held (a.number + b.number))

  abbrev pub durations_to : Kind
  durations_to = record {
    Value = Duration top;
    plus = longer;
    times = in_turn;
    nothing = never;
    unit = lasts (held 0);
  }

abbrev pub most_hours : ℕ
most_hours = 2 ^ 32 - 1

abbrev pub durations : Kind
durations = durations_to most_hours

-- none is never
abbrev pub duration : Option ℕ → Duration most_hours
duration None = never
duration (Some n) = lasts (held most_hours n)

abbrev pub duration_value : Hours → Duration most_hours
duration_value h = duration h.0

-- '-', or the hours in decimal digits
abbrev pub duration_print : Duration most_hours → List ℕ
duration_print never = 45 ∷ []
duration_print (lasts a) = decimal a.number

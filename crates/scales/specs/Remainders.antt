-- Arithmetic modulo a number.
use Rattle.std.specs.Prelude.{ℕ, ◌+◌, ◌*◌, ◌%◌, ◌<◌}
use Rattle.std.proofs.Common.{mod-lt}
use Rattle.algebra.specs.Laws.{Kind}
use Rattle.scales.specs.Bounded.{Bounded, bounded}

module _ (m : ℕ) (some : 0 < m) where
  -- the remainder of a number
  abbrev pub reduced : ℕ → Bounded m
  reduced n = bounded m (n % m) (mod-lt n some)

  -- the numbers below `m`, with the remainders of sums and of products
  abbrev pub modulo : Kind
  modulo = record {
    Value = Bounded m;
    plus = λ x y. reduced (x.number + y.number);
    times = λ x y. reduced (x.number * y.number);
    nothing = reduced 0;
    unit = reduced 1;
  }

-- Polynomials in one unknown over a kind of weight, with all powers from the d-th on dropped.
use Rattle.std.specs.Prelude.{ℕ, zero, suc, ◌-◌, cond, ◌==◌}
use Rattle.algebra.specs.Laws.{Kind}
use Rattle.algebra.specs.Sums.{sum}
use Rattle.std.specs.List.{range_with_len}

-- d coefficients, that of the power 0 first
unfoldable pub Coefficients : Type 0 → ℕ → Type 0
Coefficients V zero = Unit {0}
Coefficients V (suc d) = V × Coefficients V d

-- the coefficients that f gives, power by power
unfoldable pub table : {V : Type 0} (d : ℕ) → (ℕ → V) → Coefficients V d
unfolding Coefficients
table zero f = tt
table (suc d) f = (f 0, table d (λ i. f (suc i)))

module _ (k : Kind) where
  -- the coefficient at a power, nothing at a power that is dropped
  unfoldable pub at : (d : ℕ) → Coefficients k.Value d → ℕ → k.Value
  unfolding Coefficients
  at zero p i = k.nothing
  at (suc d) p zero = p.0
  at (suc d) p (suc i) = at d p.1 i

  -- x at the power n, and nothing at the others
  abbrev pub only_at : ℕ → k.Value → ℕ → k.Value
  only_at n x i = cond (i == n) x k.nothing

  -- x times the n-th power of the unknown
  abbrev pub power : (d n : ℕ) → k.Value → Coefficients k.Value d
  power d n x = table d (only_at n x)

  -- the coefficient of a product at the power i: over all j up to i, the j-th of f times the (i − j)-th of g
  unfoldable pub product_at : (ℕ → k.Value) → (ℕ → k.Value) → ℕ → k.Value
  product_at f g i = sum k (λ j. k.times (f j) (g (i - j))) (range_with_len 0 (suc i))

-- the polynomials in one unknown with d coefficients
abbrev pub polynomials : ℕ → Kind → Kind
polynomials d k = record {
  Value = Coefficients k.Value d;
  plus = λ p q. table d (λ i. k.plus (at k d p i) (at k d q i));
  times = λ p q. table d (product_at k (at k d p) (at k d q));
  nothing = table d (λ i. k.nothing);
  unit = power k d 0 k.unit;
}

-- Two numbers below a limit are the same where they are the same numbers.
use Rattle.std.specs.Prelude.{◌≡◌, ℕ, T, nat_lt}
use mathlib.Core.HLevel.{is_prop→PathP}
use Rattle.std.proofs.Math.Dec.{T_prop}
use Rattle.scales.specs.Bounded.{Bounded}

pub bounded_same : {limit : ℕ} (x y : Bounded limit) → x.number ≡ y.number → x ≡ y
bounded_same {limit} x y same = λ i. record {
  number = same i;
  small = is_prop→PathP (λ j. T (nat_lt (same j) limit)) (λ j. T_prop (nat_lt (same j) limit)) x.small y.small i;
}

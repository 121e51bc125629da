-- Numbers below a limit.
use Rattle.std.specs.Prelude.{ℕ, ◌<◌, T, nat_lt}
use Rattle.std.proofs.Common.{lt→ltb}

-- A number, and that it is below the limit. No number is there twice, since a test that holds has one proof.
pub record Bounded (limit : ℕ) : Type 0 where
  pub number : ℕ
  pub small : T (nat_lt number limit)

-- that a number is below the limit, as the test
pub tested : (limit n : ℕ) → n < limit → T (nat_lt n limit)
tested limit n below = lt→ltb n limit below

abbrev pub bounded : (limit n : ℕ) → n < limit → Bounded limit
bounded limit n below = record { number = n; small = tested limit n below }

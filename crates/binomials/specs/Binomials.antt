-- Binomials.
use Rattle.std.specs.Prelude.{ℕ, zero, suc, ◌+◌}

-- how many ways there are to choose k of n things: none where k is above n
unfoldable pub choose : ℕ → ℕ → ℕ
choose n zero = 1
choose zero (suc k) = 0
choose (suc n) (suc k) = choose n k + choose n (suc k)

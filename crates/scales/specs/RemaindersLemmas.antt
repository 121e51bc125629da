-- Arithmetic modulo a number keeps the laws of a scale.
use Rattle.std.specs.Prelude.{◌≡◌, ℕ, ◌+◌, ◌*◌, ◌%◌, ◌<◌}
use Rattle.std.proofs.Common.{add_assoc, add_comm, mod-eq_of_lt, mul-add, mul_assoc, mul_comm, one-mul, zero-add, zero-mul, sym, ap, ◌∙◌, ltb→lt}
use Rattle.std.proofs.Math.Nat.{add-mod, add-mod-mod, mod-add-mod, mod-mod}
use Rattle.std.proofs.lemmas.Nat.{mul-mod_first, mul-mod_second}
use Rattle.algebra.specs.Laws.{Laws}
use Rattle.scales.specs.Bounded.{Bounded}
use Rattle.scales.specs.Remainders.{reduced, modulo}
use Rattle.scales.specs.BoundedLemmas.{bounded_same}

module _ (m : ℕ) (some : 0 < m) where
  -- a number below `m` is its own remainder
  pub reduced_bounded : (x : Bounded m) → reduced m some x.number ≡ x
  reduced_bounded x = bounded_same _ _ (mod-eq_of_lt (ltb→lt x.number m x.small))

  -- a remainder taken once more
  pub reduced_again : (n : ℕ) → reduced m some (n % m) ≡ reduced m some n
  reduced_again n = bounded_same _ _ (mod-mod n m)

  -- plus and times with a remainder on one side
  plus_left : (a : ℕ) (x : Bounded m) → (modulo m some).plus (reduced m some a) x ≡ reduced m some (a + x.number)
  plus_left a x = bounded_same _ _ (mod-add-mod a m x.number)

  plus_right : (x : Bounded m) (a : ℕ) → (modulo m some).plus x (reduced m some a) ≡ reduced m some (x.number + a)
  plus_right x a = bounded_same _ _ (add-mod-mod x.number a m)

  times_left : (a : ℕ) (x : Bounded m) → (modulo m some).times (reduced m some a) x ≡ reduced m some (a * x.number)
  times_left a x = bounded_same _ _ (mul-mod_first a x.number m)

  times_right : (x : Bounded m) (a : ℕ) → (modulo m some).times x (reduced m some a) ≡ reduced m some (x.number * a)
  times_right x a = bounded_same _ _ (mul-mod_second x.number a m)

  -- the remainder of a sum and of a product, by the remainders
  pub reduced_plus : (a b : ℕ) → reduced m some (a + b) ≡ (modulo m some).plus (reduced m some a) (reduced m some b)
  reduced_plus a b = bounded_same _ _ (add-mod a b m)

  pub reduced_times : (a b : ℕ) → reduced m some (a * b) ≡ (modulo m some).times (reduced m some a) (reduced m some b)
  reduced_times a b = sym (times_left a (reduced m some b) ∙ bounded_same _ _ (mul-mod_second a b m))

  -- the same, from a number that the code took a remainder for
  pub plus_from : {r : ℕ} (a b : ℕ) → r ≡ (a + b) % m → reduced m some r ≡ (modulo m some).plus (reduced m some a) (reduced m some b)
  plus_from a b same = ap (reduced m some) same ∙ reduced_again (a + b) ∙ reduced_plus a b

  pub times_from : {r : ℕ} (a b : ℕ) → r ≡ (a * b) % m → reduced m some r ≡ (modulo m some).times (reduced m some a) (reduced m some b)
  times_from a b same = ap (reduced m some) same ∙ reduced_again (a * b) ∙ reduced_times a b

  pub modulo_laws : Laws (modulo m some)
  modulo_laws = record {
    plus_assoc = λ x y z. plus_left _ z ∙ ap (reduced m some) (add_assoc x.number y.number z.number) ∙ sym (plus_right x _);
    plus_comm = λ x y. ap (reduced m some) (add_comm x.number y.number);
    plus_nothing = λ x. plus_left 0 x ∙ ap (reduced m some) (zero-add x.number) ∙ reduced_bounded x;
    times_assoc = λ x y z. times_left _ z ∙ ap (reduced m some) (mul_assoc x.number y.number z.number) ∙ sym (times_right x _);
    times_comm = λ x y. ap (reduced m some) (mul_comm x.number y.number);
    times_unit = λ x. times_left 1 x ∙ ap (reduced m some) (one-mul x.number) ∙ reduced_bounded x;
    distributes = λ x y z. times_right x _ ∙ ap (reduced m some) (mul-add x.number y.number z.number) ∙ reduced_plus _ _;
    times_nothing = λ x. times_left 0 x ∙ ap (reduced m some) (zero-mul x.number);
  }

-- Durations keep the laws of a scale.
use Rattle.std.specs.Prelude.{◌≡◌, ℕ, ◌+◌, max, nat_lt, refl}
use Rattle.std.proofs.Common.{arith, ap, ltb→lt}
use Rattle.std.proofs.lemmas.Bool.{cond_both, ltb-true, ltb-false}
use Rattle.algebra.specs.Laws.{Laws}
use Rattle.scales.specs.Bounded.{Bounded}
use Rattle.scales.specs.Durations.{Duration, never, lasts, held, greater, longer, in_turn, durations_to, durations, most_hours}
use Rattle.scales.specs.BoundedLemmas.{bounded_same}

module _ (top : ℕ) where
  pub greater_is : (a b : Bounded (top + 1)) → (greater top a b).number ≡ max a.number b.number
  greater_is a b =
      cond_both (nat_lt a.number b.number) b a (λ c. c.number ≡ max a.number b.number)
      (λ less. omega (arith, ltb-true a.number b.number less))
      (λ more. omega (arith, ltb-false a.number b.number more))

  longer_assoc : (x y z : Duration top) → longer top (longer top x y) z ≡ longer top x (longer top y z)
  longer_assoc never y z = refl
  longer_assoc (lasts a) never z = refl
  longer_assoc (lasts a) (lasts b) never = refl
  longer_assoc (lasts a) (lasts b) (lasts c) =
      ap lasts (bounded_same _ _ (omega (arith, greater_is (greater top a b) c, greater_is a b, greater_is a (greater top b c), greater_is b c)))

  longer_comm : (x y : Duration top) → longer top x y ≡ longer top y x
  longer_comm never never = refl
  longer_comm never (lasts b) = refl
  longer_comm (lasts a) never = refl
  longer_comm (lasts a) (lasts b) = ap lasts (bounded_same _ _ (omega (arith, greater_is a b, greater_is b a)))

  in_turn_assoc : (x y z : Duration top) → in_turn top (in_turn top x y) z ≡ in_turn top x (in_turn top y z)
  in_turn_assoc never y z = refl
  in_turn_assoc (lasts a) never z = refl
  in_turn_assoc (lasts a) (lasts b) never = refl
  in_turn_assoc (lasts a) (lasts b) (lasts c) = ap lasts (bounded_same _ _ (omega arith))

  in_turn_comm : (x y : Duration top) → in_turn top x y ≡ in_turn top y x
  in_turn_comm never never = refl
  in_turn_comm never (lasts b) = refl
  in_turn_comm (lasts a) never = refl
  in_turn_comm (lasts a) (lasts b) = ap lasts (bounded_same _ _ (omega arith))

  in_turn_unit : (x : Duration top) → in_turn top (lasts (held top 0)) x ≡ x
  in_turn_unit never = refl
  in_turn_unit (lasts a) = ap lasts (bounded_same _ _ (omega (arith, ltb→lt a.number (top + 1) a.small)))

  in_turn_longer : (x y z : Duration top) → in_turn top x (longer top y z) ≡ longer top (in_turn top x y) (in_turn top x z)
  in_turn_longer never y z = refl
  in_turn_longer (lasts a) never z = refl
  in_turn_longer (lasts a) (lasts b) never = refl
  in_turn_longer (lasts a) (lasts b) (lasts c) =
      ap lasts (bounded_same _ _ (omega (arith, greater_is b c, greater_is (held top (a.number + b.number)) (held top (a.number + c.number)))))

  pub durations_to_laws : Laws (durations_to top)
  durations_to_laws = record {
    plus_assoc = longer_assoc;
    plus_comm = longer_comm;
    plus_nothing = λ x. refl;
    times_assoc = in_turn_assoc;
    times_comm = in_turn_comm;
    times_unit = in_turn_unit;
    distributes = in_turn_longer;
    times_nothing = λ x. refl;
  }

pub durations_laws : Laws durations
durations_laws = durations_to_laws most_hours

-- Kinds of weight, and the laws of a scale.
use Rattle.std.specs.Prelude.{◌≡◌}

-- A kind of weight: its values, plus and times, the value nothing and the value unit. No law is asked.
pub record Kind : Type 1 where
  pub Value : Type 0
  pub plus : Value → Value → Value
  pub times : Value → Value → Value
  pub nothing : Value
  pub unit : Value

-- The laws of a scale, over all values of its kind.
pub record Laws (k : Kind) : Type 0 where
  pub plus_assoc : (x y z : k.Value) → k.plus (k.plus x y) z ≡ k.plus x (k.plus y z)
  pub plus_comm : (x y : k.Value) → k.plus x y ≡ k.plus y x
  pub plus_nothing : (x : k.Value) → k.plus k.nothing x ≡ x
  pub times_assoc : (x y z : k.Value) → k.times (k.times x y) z ≡ k.times x (k.times y z)
  pub times_comm : (x y : k.Value) → k.times x y ≡ k.times y x
  pub times_unit : (x : k.Value) → k.times k.unit x ≡ x
  pub distributes : (x y z : k.Value) → k.times x (k.plus y z) ≡ k.plus (k.times x y) (k.times x z)
  pub times_nothing : (x : k.Value) → k.times k.nothing x ≡ k.nothing

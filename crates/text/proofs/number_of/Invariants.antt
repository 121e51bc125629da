-- The number so far, followed by the digits that are left, is the number of all.
use Rattle.std.proofs.Common.{◌≡◌, ◌-◌, map, drop}
use Rattle.std.specs.Int.Digits.{number_from_digits_after}
use Rattle.text.specs.Fields.{value_of}
use Rattle.text.proofs.number_of.Given as goal

abbrev pub invariant-loop-b : goal.invariant-loop-b
invariant-loop-b l = number_from_digits_after 10 l.n (map (λ b. b - 48) (drop l.b-index l.digits)) ≡ value_of l.digits

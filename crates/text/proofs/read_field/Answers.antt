-- The three ways out are those of `field`.
use Rattle.std.proofs.Common.{◌≡◌, ℕ, ◌-◌, ◌<◌, ◌≤◌, ◌⊎◌, List, length, get_or, take, drop, sym, ap, ◌∙◌, arith, ltb-false, ltb-true}
use Rattle.std.proofs.lemmas.List.Sums.{prefix_len-le-length}
use Rattle.std.specs.List.{prefix_len}
use Rattle.text.specs.Fields.{is_digit, leading_digits, value_of}
use Rattle.text.proofs.Digits.{leading_front, length_leading, leading_leading}
use Rattle.text.proofs.Fields.{field_none, field_other, field_space, number_first_none, number_first_is}
use Rattle.text.proofs.read_field.Goals as goal
use Rattle.text.proofs.read_field.Goals.{in_default-via-then-line-lt1, in_default-via-else-line-lt1+in_default-1}

-- what follows the first byte, as the pattern cuts it off
abbrev after : List ℕ → List ℕ
after line = take (length line - 1) (drop 1 line)

pub returns-in_default : goal.returns-in_default
returns-in_default c = elim c.in_default.branch [
  | in_default-via-then-line-lt1 w ↦ sym (field_none c.args.line.now (omega (arith, ltb-true)))
  | in_default-via-else-line-lt1+in_default-1 w ↦ sym (field_other c.args.line.now (omega arith))
]

pub returns-then-count-eq0 : goal.returns-then-count-eq0
returns-then-count-eq0 c =
    let long : 1 ≤ length c.args.line.now = omega (arith, ltb-false) in
    let space : get_or c.args.line.now 0 0 ≡ 32 = omega arith in
    let many : (length (leading_digits (after c.args.line.now)) ≡ 0) ⊎ (10 < length (leading_digits (after c.args.line.now))) =
    grind (arith, length_leading (after c.args.line.now)) in
    sym (field_space c.args.line.now long space ∙ number_first_none (after c.args.line.now) many)

pub split_at-requires : goal.split_at-requires
split_at-requires c = omega (arith, prefix_len-le-length is_digit (after c.args.line.now), c.count_digits-count.ensures)

-- the part that is split off holds the digits
front : (text part : List ℕ) (n : ℕ) → part ≡ take n text → n ≡ prefix_len is_digit text → part ≡ leading_digits text
front text part n split count = split ∙ ap (λ k. take k text) count ∙ sym (leading_front text)

pub number_of-requires : goal.number_of-requires
number_of-requires c =
    let digits = front (after c.args.line.now) _ _ c.split_at.ensures.front (omega arith) in
    record {
      short = omega (arith, c.split_at.ensures.front_len);
      all = ap leading_digits digits ∙ leading_leading (after c.args.line.now) ∙ sym digits;
    }

pub returns : goal.returns
returns c =
    let long : 1 ≤ length c.args.line.now = omega (arith, ltb-false) in
    let space : get_or c.args.line.now 0 0 ≡ 32 = omega arith in
    let digits = front (after c.args.line.now) _ _ c.split_at.ensures.front (omega arith) in
    let count = c.count_digits-count.ensures ∙ sym (length_leading (after c.args.line.now)) in
    number_first_is (after c.args.line.now) _ _ _ (omega arith) (omega arith) count (c.number_of.ensures ∙ ap value_of digits) c.split_at.ensures.back
    ∙ sym (field_space c.args.line.now long space)

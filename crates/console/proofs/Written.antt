-- Replies fit into 32 bytes, and their parts are written one after another.
use Rattle.std.proofs.Common.{◌≡◌, ℕ, ◌+◌, ◌<◌, ◌≤◌, List, ◌++◌, length, Some, None, Ok, Err, decimal, Option, Result, ap, ◌∙◌, ap₂, append_assoc, arith, ltb→lt, length-append}
use Rattle.std.proofs.lemmas.Fmt.{length-decimal-le}
use Rattle.refusals.specs.Refusals.{number}
use Rattle.refusals.specs.declared.Refusal.{Refusal}
use Rattle.refusals.specs.declared.Refusal.TheVariants.{VotersFull, ModulesFull, NoVoter, NoModule, LinkStands, NoLink, CellTooWide, NoCell, WeightsMismatch, BufferTooShort, BadLine}
use Rattle.scales.specs.Bounded.{Bounded}
use Rattle.scales.specs.Counts.{count_limit, count_print, count_value}
use Rattle.scales.specs.Durations.{Duration, never, lasts, duration_print, duration_value, most_hours}
use Rattle.text.specs.Placed.{after_write, end_of, placed}
use Rattle.text.proofs.Writes.{after_write_fits, end_of_fits, length_placed, placed_placed}
use Rattle.console.specs.Replies.{newline, outcome_text, reply_text, told_by}
use Rattle.console.specs.declared.replies.Outcome.{Outcome}
use Rattle.console.specs.declared.replies.Outcome.TheVariants.{Done, Counted, Lasting}

-- a number has two digits at most
number_small : (e : Refusal) → number e < 100
number_small VotersFull = omega arith
number_small ModulesFull = omega arith
number_small NoVoter = omega arith
number_small NoModule = omega arith
number_small LinkStands = omega arith
number_small NoLink = omega arith
number_small CellTooWide = omega arith
number_small NoCell = omega arith
number_small WeightsMismatch = omega arith
number_small BufferTooShort = omega arith
number_small BadLine = omega arith

pub digits_few : (e : Refusal) → length (decimal (number e)) ≤ 2
digits_few e = let h = number_small e in length-decimal-le 2 (number e) (omega arith) (omega arith) (omega arith)

-- a count has 20 digits at most, and hours 10
pub count_few : (v : Bounded count_limit) → length (count_print v) ≤ 20
count_few v = let h = ltb→lt v.number count_limit v.small in length-decimal-le 20 v.number (omega arith) (omega arith) (omega arith)

pub hours_few : (d : Duration most_hours) → length (duration_print d) ≤ 10
hours_few never = omega arith
hours_few (lasts v) = let h = ltb→lt v.number (most_hours + 1) v.small in length-decimal-le 10 v.number (omega arith) (omega arith) (omega arith)

text_few : (o : Outcome) → length (outcome_text o) ≤ 22
text_few Done = omega arith
text_few (Counted count) = omega (arith, count_few (count_value count))
text_few (Lasting hours) = omega (arith, hours_few (duration_value hours))

-- a reply has 23 bytes at most
pub reply_few : (r : Result Outcome Refusal) → length (reply_text (told_by r)) ≤ 23
unfolding reply_text
reply_few (Ok o) = simp length-append (omega (arith, text_few o))
reply_few (Err e) = simp length-append (omega (arith, digits_few e))

-- a text that fits is never refused
pub no_end : (at : ℕ) (t b : List ℕ) → at + length t ≤ length b → ◌≡◌ {A = Option ℕ} None (end_of at t b) → ⊥
no_end at t b fits h = let e = h ∙ end_of_fits at t b fits in let z : ◌≡◌ {A = ℕ} 0 1 = cc in omega arith

pub the_end : (at k : ℕ) (t b : List ℕ) → at + length t ≤ length b → Some k ≡ end_of at t b → k ≡ at + length t
the_end at k t b fits h = let e = h ∙ end_of_fits at t b fits in cc

-- a first text, a second one and the newline, one after another
module _ (first second b : List ℕ) (room : length first + length second + 1 ≤ length b) where
  first_fits : 0 + length first ≤ length b
  first_fits = omega arith

  module _ (k : ℕ) (c : List ℕ) (at : Some k ≡ end_of 0 first b) (is : c ≡ after_write 0 first b) where
    first_placed : c ≡ placed 0 first b
    first_placed = is ∙ after_write_fits 0 first b first_fits

    first_end : k ≡ 0 + length first
    first_end = the_end 0 k first b first_fits at

    same_length : length c ≡ length b
    same_length = ap length first_placed ∙ length_placed 0 first b first_fits

    pub second_fits : k + length second ≤ length c
    second_fits = omega (arith, first_end, same_length)

    module _ (j : ℕ) (d : List ℕ) (at_2 : j ≡ k + length second) (is_2 : d ≡ placed k second c) where
      second_placed : d ≡ placed 0 (first ++ second) b
      second_placed = is_2 ∙ ap₂ (λ x y. placed x second y) first_end first_placed ∙ placed_placed 0 first second b (omega arith)

      length_d : length d ≡ length b
      length_d = ap length second_placed ∙ length_placed 0 (first ++ second) b (simp length-append (omega arith))

      last_fits : j + length newline ≤ length d
      last_fits = omega (arith, first_end, length_d)

      pub all_written : (r : Option ℕ) (f : List ℕ) → r ≡ end_of j newline d → f ≡ after_write j newline d
          → (r ≡ Some (length (first ++ (second ++ newline)))) × (f ≡ placed 0 (first ++ (second ++ newline)) b)
      all_written r f at_3 is_3 =
          let whole : (first ++ second) ++ newline ≡ first ++ (second ++ newline) = append_assoc first second newline in
          let long : j + length newline ≡ length (first ++ (second ++ newline)) = simp length-append (omega (arith, first_end)) in
          let start : j ≡ 0 + length (first ++ second) = simp length-append (omega (arith, first_end)) in (
            at_3 ∙ end_of_fits j newline d last_fits ∙ ap Some long,
            is_3 ∙ after_write_fits j newline d last_fits ∙ ap₂ (λ x y. placed x newline y) start second_placed
                ∙ placed_placed 0 (first ++ second) newline b (simp length-append (omega arith)) ∙ ap (λ t. placed 0 t b) whole,
          )

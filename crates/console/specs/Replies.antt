-- What the console does with a line, and what it replies.
use Rattle.std.specs.Prelude.{ℕ, List, [], ◌∷◌, ◌++◌, length, Some, None, Ok, Err, codes, decimal, Option, Result, nat_lt}
use Rattle.std.specs.Result.{result_map_both}
use Rattle.network.specs.Changes.{Change, add_voter, add_module, link, cut, network_after, refusal}
use Rattle.network.specs.Networks.{Network}
use Rattle.refusals.specs.Refusals.{Check, answered, first_due, number}
use Rattle.refusals.specs.declared.Refusal.{Refusal}
use Rattle.refusals.specs.declared.Refusal.TheVariants.{BadLine, BufferTooShort}
use Rattle.scales.specs.Counts.{count_print, count_value}
use Rattle.scales.specs.Durations.{duration_print, duration_value}
use Rattle.console.specs.Requests.{request}
use Rattle.console.specs.Totals.{longest_repair, pattern_count}
use Rattle.console.specs.declared.line.Request.{Request}
use Rattle.console.specs.declared.line.Request.TheVariants.{AddVoter, AddModule, Link, Cut, CountPatterns, LongestRepair}
use Rattle.console.specs.declared.replies.Outcome.{Outcome}
use Rattle.console.specs.declared.replies.Outcome.TheVariants.{Done, Counted, Lasting}

-- A call changes the network, or asks something about it; the answer is a text or a refusal.
pub data Effect : Type 0 where
  changes : Change → Effect
  asks : (Network → Result (List ℕ) Refusal) → Effect

-- a total on a scale: the scale's letter, a space and the print
abbrev pub on_scale : ℕ → List ℕ → List ℕ
on_scale letter print = letter ∷ (32 ∷ print)

-- what each call does
abbrev pub effect_of : Request → Effect
effect_of (AddVoter code) = changes (add_voter code)
effect_of (AddModule code) = changes (add_module code)
effect_of (Link l) = changes (link l.voter l.«module»)
effect_of (Cut l) = changes (cut l.voter l.«module»)
-- C
effect_of CountPatterns = asks (λ n. Ok (on_scale 67 (count_print (pattern_count n))))
-- H
effect_of (LongestRepair hours) = asks (λ n. Ok (on_scale 72 (duration_print (longest_repair hours n))))

-- the answer: `ok` to a change that is made
abbrev pub answer_of : Effect → Network → Result (List ℕ) Refusal
answer_of (changes c) n = answered (refusal c n) (codes "ok")
answer_of (asks question) n = question n

-- the network afterwards
abbrev pub left_by : Effect → Network → Network
left_by (changes c) n = network_after c n
left_by (asks question) n = n

-- the answer to a call, and to a line that makes none
abbrev pub call_answer : Option Request → Network → Result (List ℕ) Refusal
call_answer None n = Err BadLine
call_answer (Some call) n = answer_of (effect_of call) n

-- the network after a call, and after a line that makes none
abbrev pub after_call : Option Request → Network → Network
after_call None n = n
after_call (Some call) n = left_by (effect_of call) n

-- the answer to a line
unfoldable pub line_answer : List ℕ → Network → Result (List ℕ) Refusal
line_answer line n = call_answer (request line) n

-- the network after a line
unfoldable pub after_line : List ℕ → Network → Network
after_line line n = after_call (request line) n

-- the text that tells an outcome
abbrev pub outcome_text : Outcome → List ℕ
outcome_text Done = codes "ok"
outcome_text (Counted count) = on_scale 67 (count_print (count_value count))
outcome_text (Lasting hours) = on_scale 72 (duration_print (duration_value hours))

abbrev pub told_by : Result Outcome Refusal → Result (List ℕ) Refusal
told_by r = result_map_both outcome_text (λ e. e) r

abbrev pub newline : List ℕ
newline = 10 ∷ []

-- the reply: the answer's text, or `no` and the refusal's number, and a newline
unfoldable pub reply_text : Result (List ℕ) Refusal → List ℕ
reply_text (Ok text) = text ++ newline
reply_text (Err e) = codes "no " ++ (decimal (number e) ++ newline)

-- a buffer under 32 bytes takes no reply
abbrev pub too_short : List ℕ → Check
too_short buffer = (nat_lt (length buffer) 32, BufferTooShort)

unfoldable pub no_room : List ℕ → Option Refusal
no_room buffer = first_due (too_short buffer ∷ [])

-- A print into the rest of a buffer, from a place on, stands at that place of the buffer.
use Rattle.std.proofs.Common.{◌≡◌, ℕ, ◌+◌, ◌-◌, ◌≤◌, List, [], ◌++◌, length, take, drop, Some, None, Ok, Option, Result, ap, ◌∙◌, append-nil, arith, length-drop}
use borrow.Rule.Slice.PartAt.{part_to_end}
use borrow.Rule.Slice.PartMut.{put_mid}
use Rattle.std.proofs.lemmas.List.{drop_all, drop-drop}
use Rattle.std.proofs.lemmas.Bool.{le-ltb}
use Rattle.std.specs.Result.{result_ok}
use Rattle.algebra.specs.Prints.{after_print, no_room, printed_end}
use Rattle.network.proofs.Dues.{miss}
use Rattle.refusals.specs.Refusals.{answered}
use Rattle.refusals.specs.declared.Refusal.{Refusal}
use Rattle.text.proofs.Writes.{after_write_fits, placed_start}
use Rattle.text.specs.Placed.{after_write, placed}

module _ (k : ℕ) (t c : List ℕ) (fits : k + length t ≤ length c) where
  -- the rest of the buffer, as the code cuts it off
  abbrev rest : List ℕ
  rest = take (length c - k) (drop k c)

  rest_fits : length t ≤ length (drop k c)
  rest_fits = simp length-drop (omega arith)

  pub print_answer : {r : Result ℕ Refusal} → r ≡ printed_end t rest → r ≡ Ok (length t)
  print_answer is =
      let whole = part_to_end c k in
      is ∙ ap (printed_end t) whole ∙ ap (λ o. answered o (length t)) (miss (no_room t (drop k c)) [] (le-ltb (length (drop k c)) (length t) rest_fits))

  pub print_end : {r : Result ℕ Refusal} (long : ℕ) → r ≡ printed_end t rest → Some long ≡ result_ok r → long ≡ length t
  print_end long is some = let e = some ∙ ap result_ok (print_answer is) in cc

  pub print_never : {r : Result ℕ Refusal} → r ≡ printed_end t rest → ◌≡◌ {A = Option ℕ} None (result_ok r) → ⊥
  print_never is none = let e = none ∙ ap result_ok (print_answer is) in let z : ◌≡◌ {A = ℕ} 0 1 = cc in omega arith

  pub print_placed : {d : List ℕ} → d ≡ after_print t rest → put_mid k (length c - k) c d ≡ placed k t c
  unfolding placed
  print_placed {d} is =
      let written : d ≡ t ++ drop (length t) (drop k c) = is ∙ ap (after_write 0 t) (part_to_end c k) ∙ after_write_fits 0 t (drop k c) (omega (arith, rest_fits)) ∙ placed_start t (drop k c) in
      let none : drop (length c - k) (drop k c) ≡ [] = drop_all (length c - k) (drop k c) (simp length-drop (omega arith)) in
      (λ i. take k c ++ (written i ++ none i)) ∙ ap (λ xs. take k c ++ xs) (append-nil (t ++ drop (length t) (drop k c)))
      ∙ ap (λ xs. take k c ++ (t ++ xs)) (drop-drop (length t) k c)

-- Lists in which each element stands in a relation to all that follow it.
use Rattle.std.proofs.Common.{ℕ, zero, suc, ◌<◌, Bool, List, [], ◌∷◌, length, get_or, filter, arith}
use Rattle.std.specs.List.{AllByRecursion as All}
use Rattle.std.proofs.ByRecursion.{All-from_get_or, All-get_or, all_kept_by}
use Rattle.std.proofs.lemmas.Bool.{cond_both}

module _ {X : Type 0} (R : X → X → Type 0) where
  abbrev pub InOrder : List X → Type 0
  InOrder [] = Unit {0}
  InOrder (x ∷ xs) = All (R x) xs × InOrder xs

  pub in_order_from : (xs : List X) (d : X) → ((i j : ℕ) → i < j → j < length xs → R (get_or xs i d) (get_or xs j d)) → InOrder xs
  in_order_from [] d h = tt
  in_order_from (x ∷ xs) d h =
      (All-from_get_or (R x) xs d (λ j within. h 0 (suc j) (omega arith) (omega arith)), in_order_from xs d (λ i j lt within. h (suc i) (suc j) (omega arith) (omega arith)))

  pub in_order_at : (xs : List X) (d : X) → InOrder xs → (i j : ℕ) → i < j → j < length xs → R (get_or xs i d) (get_or xs j d)
  in_order_at [] d h i j lt within = absurd (omega arith)
  in_order_at (x ∷ xs) d h i zero lt within = absurd (omega arith)
  in_order_at (x ∷ xs) d h zero (suc j) lt within = All-get_or (R x) xs j d (omega arith) h.0
  in_order_at (x ∷ xs) d h (suc i) (suc j) lt within = in_order_at xs d h.1 i j (omega arith) (omega arith)

  pub in_order_kept : (p : X → Bool) (xs : List X) → InOrder xs → InOrder (filter p xs)
  in_order_kept p [] h = tt
  in_order_kept p (x ∷ xs) h =
      let rest = in_order_kept p xs h.1 in
      cond_both (p x) (x ∷ filter p xs) (filter p xs) InOrder (λ _. (all_kept_by p (R x) xs h.0, rest)) (λ _. rest)

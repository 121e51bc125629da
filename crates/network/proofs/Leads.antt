-- Which trios are the first of their cells.
use Rattle.std.proofs.Common.{◌≡◌, Bool, true, false, not, ◌&&◌, ◌||◌, ◌⊎◌, List, [], ◌∷◌, sym, refl, ap, ◌∙◌, inl, inr, ⊎_elim}
use Rattle.std.proofs.lemmas.Bool.{and_from, both_ways, cases_Bool, not_from_false, not-true}
use Rattle.sets.specs.Lists.{all, any}
use Rattle.network.specs.Cells.{leads, precedes, together}
use Rattle.network.specs.Networks.{Network, present, trios}
use Rattle.network.specs.declared.Trio.{Trio}
use Rattle.network.proofs.Inside.{all_trios, each_trio}

-- none passes where all fail
none_passes : {X : Type 0} (p : X → Bool) (xs : List X) → not (any p xs) ≡ all (λ x. not (p x)) xs
none_passes p [] = refl
none_passes p (x ∷ xs) = turned (p x) (any p xs) ∙ ap (λ b. not (p x) && b) (none_passes p xs)
  where
    turned : (a b : Bool) → not (a || b) ≡ (not a && not b)
    turned true b = refl
    turned false b = refl

module _ (n : Network) (t : Trio) where
  pub leads_from : ((u : Trio) → present n u ≡ true → precedes u t ≡ true → together n t u ≡ false) → leads n t ≡ true
  leads_from first =
      none_passes (λ u. precedes u t && together n t u) (trios n)
      ∙ all_trios n (λ u. not (precedes u t && together n t u)) (λ u here. not_from_false _ (apart u here (cases_Bool (precedes u t))))
    where
      apart : (u : Trio) → present n u ≡ true → (precedes u t ≡ true) ⊎ (precedes u t ≡ false) → (precedes u t && together n t u) ≡ false
      apart u here (inl p) = rw p (first u here p)
      apart u here (inr p) = rw p

  pub leads_not : (u : Trio) → present n u ≡ true → precedes u t ≡ true → together n t u ≡ true → leads n t ≡ false
  leads_not u here before j =
      ⊎_elim
      (λ h. absurd (both_ways (precedes u t && together n t u) (not-true _ (each_trio n (λ x. not (precedes x t && together n t x)) (sym (none_passes (λ x. precedes x t && together n t x) (trios n)) ∙ h) u here)) (and_from _ _ before j)))
      (λ h. h)
      (cases_Bool (leads n t))

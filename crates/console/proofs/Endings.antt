-- An input that falls into lines, with one byte more.
use Rattle.std.proofs.Common.{◌≡◌, ℕ, List, [], ◌∷◌, ◌++◌, sym, refl, ap, ◌∙◌, append_assoc}
use Rattle.std.proofs.ByRecursion.{All-push}
use Rattle.std.proofs.lemmas.List.{append-nil, flat_map_more}
use Rattle.std.specs.List.{flat_map}
use Rattle.console.specs.Splits.{OneLine, Splits}

pub splits_none : Splits [] [] []
splits_none = record { whole = refl; ended = tt; open_line = tt }

module _ (input : List ℕ) (full : List (List ℕ)) (part : List ℕ) (b : ℕ) (so_far : Splits input full part) where
  -- the lines, each with its newline
  abbrev with_newlines : List (List ℕ) → List ℕ
  with_newlines lines = flat_map (λ line. line ++ 10 ∷ []) lines

  longer : input ++ b ∷ [] ≡ with_newlines full ++ (part ++ b ∷ [])
  longer = ap (λ bs. bs ++ b ∷ []) so_far.whole ∙ append_assoc (with_newlines full) part (b ∷ [])

  pub splits_byte : (b ≡ 10 → ⊥) → Splits (input ++ b ∷ []) full (part ++ b ∷ [])
  splits_byte other = record {
    whole = longer;
    ended = so_far.ended;
    open_line = All-push (λ x. x ≡ 10 → ⊥) part b so_far.open_line other;
  }

  pub splits_newline : b ≡ 10 → Splits (input ++ b ∷ []) (full ++ part ∷ []) []
  splits_newline this = record {
    whole =
        longer
        ∙ ap (λ x. with_newlines full ++ (part ++ x ∷ [])) this
        ∙ flat_map_more (λ line. line ++ 10 ∷ []) [] full part
        ∙ sym (append-nil (with_newlines (full ++ part ∷ [])));
    ended = All-push OneLine full part so_far.ended so_far.open_line;
    open_line = tt;
  }

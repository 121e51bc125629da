-- How an input falls into lines.
use Rattle.std.specs.Prelude.{◌≡◌, ℕ, List, [], ◌∷◌, ◌++◌, ◌≢◌}
use Rattle.std.specs.List.{flat_map, AllByRecursion}

-- no newline among the bytes
abbrev pub OneLine : List ℕ → Type 0
OneLine bytes = AllByRecursion (λ b. b ≢ 10) bytes

-- full lines, each with the newline that ends it, and then the bytes of a line that has not ended
pub record Splits (input : List ℕ) (full : List (List ℕ)) (part : List ℕ) : Type 0 where
  pub whole : input ≡ flat_map (λ line. line ++ 10 ∷ []) full ++ part
  pub ended : AllByRecursion OneLine full
  pub open_line : OneLine part

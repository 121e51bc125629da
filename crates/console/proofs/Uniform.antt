-- A row of equal entries has the same two weights for each trio, and its total is never refused.
use Rattle.std.proofs.Common.{◌≡◌, ℕ, zero, suc, ◌+◌, ◌≤◌, not, List, [], ◌∷◌, map, length, take, replicate, Ok, Result, refl, ap, ◌∙◌}
use lib.ListN.{length-replicate}
use Rattle.std.proofs.lemmas.List.{take-replicate}
use Rattle.std.proofs.lemmas.Bool.{eq-eqb}
use Rattle.algebra.specs.Laws.{Kind}
use Rattle.network.proofs.Dues.{miss}
use Rattle.network.specs.Networks.{Network, module_count, voter_count}
use Rattle.network.specs.Patterns.{A, B, C, State, whole, at, Weights, total}
use Rattle.network.specs.Questions.{total_answer, weights_mismatch}
use Rattle.refusals.specs.Refusals.{answered}
use Rattle.refusals.specs.declared.Refusal.{Refusal}
use Rattle.weighing.specs.Entries.{entry_of, read, read_all}
use Rattle.weighing.specs.declared.weights.Weights.{Weights as Entry}
use Rattle.console.specs.Totals.{alike, uniform}

module _ {W V : Type 0} (value : W → V) (sound fault : W) where
  read_alike : read value (entry_of sound fault) ≡ alike (value sound) (value fault)
  read_alike = λ i s. by s i
    where
      by : (s : State) → read value (entry_of sound fault) s ≡ alike (value sound) (value fault) s
      by whole = refl
      by (at A) = refl
      by (at B) = refl
      by (at C) = refl

map_replicate : {X Y : Type 0} (f : X → Y) (x : X) (m : ℕ) → map f (replicate m x) ≡ replicate m (f x)
map_replicate f x zero = refl
map_replicate f x (suc m) = ap (λ ys. f x ∷ ys) (map_replicate f x m)

module _ (k : Kind) {W : Type 0} (value : W → k.Value) (n : Network) (sound fault : W) where
  -- the first entries of the row, one for each trio
  read_uniform : (row : List (Entry W)) (most count : ℕ) → row ≡ take count (replicate most (entry_of sound fault)) → count ≤ most → count ≡ voter_count n + module_count n
      → read_all value row ≡ uniform k n (value sound) (value fault)
  unfolding uniform
  read_uniform row most count is room all =
      ap (read_all value) (is ∙ take-replicate count most (entry_of sound fault) room)
      ∙ map_replicate (read value) (entry_of sound fault) count
      ∙ (λ i. replicate (all i) (read_alike value sound fault i))

  uniform_answer : (ws : List (Weights k)) → ws ≡ uniform k n (value sound) (value fault) → total_answer k n ws ≡ Ok (total k n (uniform k n (value sound) (value fault)))
  unfolding uniform
  uniform_answer ws is =
      let long : length ws ≡ voter_count n + module_count n = ap length is ∙ length-replicate (voter_count n + module_count n) (alike (value sound) (value fault)) in
      ap (λ o. answered o (total k n ws)) (miss (weights_mismatch (length ws) n) [] (ap not (eq-eqb (length ws) (voter_count n + module_count n) long)))
      ∙ ap (λ us. Ok (total k n us)) is

  pub uniform_total : {r : Result k.Value Refusal} (row : List (Entry W)) (most count : ℕ) → r ≡ total_answer k n (read_all value row)
      → row ≡ take count (replicate most (entry_of sound fault)) → count ≤ most → count ≡ voter_count n + module_count n
      → r ≡ Ok (total k n (uniform k n (value sound) (value fault)))
  uniform_total row most count answer is room all = answer ∙ uniform_answer (read_all value row) (read_uniform row most count is room all)

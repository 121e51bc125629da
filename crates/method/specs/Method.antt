-- The cell method: the total worked out cell by cell, one step for each combination of a cell's voter trios.
use Rattle.std.specs.Prelude.{ℕ, ◌^◌, List, [], ◌∷◌, length, take, drop, Result, slice_index_or}
use Rattle.std.specs.List.{range_with_len}
use Rattle.algebra.specs.Laws.{Kind}
use Rattle.algebra.specs.Sums.{product, sum}
use Rattle.network.specs.Cells.{Members, all_cells}
use Rattle.network.specs.Networks.{Link, Network, voter_count}
use Rattle.network.specs.Patterns.{Position, A, B, C, whole, at, Weights}
use Rattle.network.specs.Questions.{weights_mismatch}
use Rattle.refusals.specs.Refusals.{answered, first_due}
use Rattle.refusals.specs.declared.Refusal.{Refusal}
use Rattle.method.specs.Groups.{combination, group, heads, left_out, unfed}

module _ (k : Kind) where
  -- the weights of the trio at place i of a list
  abbrev pub entry : List (Weights k) → ℕ → Weights k
  entry ws i = slice_index_or ws i (λ _. k.unit)

  -- What a module trio adds once the voters' states are fixed. Fed by no faulty voter, it may be in any state; fed
  -- by a group at position p, it may be whole or faulty at p.
  abbrev pub merged : Weights k → Weights k
  merged u whole = k.plus (k.plus (k.plus (u whole) (u (at A))) (u (at B))) (u (at C))
  merged u (at p) = k.plus (u whole) (u (at p))

  -- what the voter trios add, and what the module trios add, by number
  abbrev pub voter_weights : List (Weights k) → ℕ → Weights k
  voter_weights ws = entry ws

  abbrev pub module_weights : List (Weights k) → ℕ → Weights k
  module_weights ws m = merged (entry ws m)

  abbrev pub over_positions : (Position → k.Value) → k.Value
  over_positions f = k.plus (k.plus (f A) (f B)) (f C)

  -- what each voter trio and each module trio adds, apart from every group or at a group's position
  module _ (voters modules : ℕ → Weights k) where
    -- a group at one position: its voters are faulty there, and each module that it feeds may be
    abbrev pub group_at : Members → Position → k.Value
    group_at g p = k.times (product k (λ v. voters v (at p)) g.0) (product k (λ m. modules m (at p)) g.1)

    -- a group shares one position
    abbrev pub group_weight : Members → k.Value
    group_weight g = over_positions (group_at g)

    -- the weight of all tolerated patterns of a cell in which just the voters of the combination are faulty
    abbrev pub combination_weight : List Link → Members → List ℕ → k.Value
    combination_weight ls cell chosen =
        k.times
        (k.times (product k (λ v. voters v whole) (left_out chosen cell.0)) (product k (λ v. group_weight (group ls chosen cell.1 v)) (heads ls chosen)))
        (product k (λ m. modules m whole) (unfed ls chosen cell.1))

    unfoldable pub cell_weight : List Link → Members → k.Value
    cell_weight ls cell = sum k (λ j. combination_weight ls cell (combination cell.0 j)) (range_with_len 0 (2 ^ length cell.0))

  -- the product over the cells; ws has the weights of each trio, voters first
  unfoldable pub by_cells : Network → List (Weights k) → k.Value
  by_cells n ws = product k (cell_weight (voter_weights (take (voter_count n) ws)) (module_weights (drop (voter_count n) ws)) n.links) (all_cells n)

  -- what weighing a network by cells answers
  abbrev pub by_cells_answer : Network → List (Weights k) → Result k.Value Refusal
  by_cells_answer n ws = answered (first_due (weights_mismatch (length ws) n ∷ [])) (by_cells n ws)

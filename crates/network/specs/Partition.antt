-- What numbering the cells comes to, in terms of chains.
use Rattle.std.specs.Prelude.{◌≡◌, ℕ, ◌<◌, true, slice_index_or}
use Rattle.network.specs.Cells.{cell_count, cell_of, cells, edges}
use Rattle.network.specs.Chains.{Chain}
use Rattle.network.specs.Networks.{Network, present}
use Rattle.network.specs.declared.Trio.{Trio}
use Rattle.network.specs.declared.Trio.TheVariants.{Voter}

pub record Numbered (n : Network) : Type 0 where
  -- each trio is in a cell
  pub within : (t : Trio) → present n t ≡ true → cell_of n t < cell_count n
  -- trios are in one cell just where a chain of links joins them
  pub joins : (t u : Trio) → present n t ≡ true → present n u ≡ true → cell_of n t ≡ cell_of n u → Chain (edges n) t u
  pub joined_are : (t u : Trio) → Chain (edges n) t u → cell_of n t ≡ cell_of n u
  -- no number is left out: the cell that is listed at c has the number c
  pub listed : (c : ℕ) → c < cell_count n → cell_of n (slice_index_or (cells n) c (Voter 0)) ≡ c

-- so it is with every network
abbrev pub CellsAreNumbered : Type 0
CellsAreNumbered = (n : Network) → Numbered n

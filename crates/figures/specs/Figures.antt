-- What the definitions come to on small networks.
use Rattle.std.specs.Prelude.{◌≡◌, [], ◌∷◌}
use Rattle.network.specs.Cells.{cell_count}
use Rattle.network.specs.Networks.{empty}
use Rattle.network.specs.Patterns.{total}
use Rattle.scales.specs.Counts.{counts}
use Rattle.scales.specs.Durations.{durations}
use Rattle.figures.specs.Examples.{apart, fork, hours, meeting, mesh, ones, pair, repair}

pub record Figures : Type 0 where
  -- without a trio there is one pattern, the empty one, and no cell
  pub empty_total : (total counts empty []).number ≡ 1
  pub empty_cells : cell_count empty ≡ 0
  -- unlinked, each of two trios is in any of its four states
  pub apart_total : (total counts apart (ones apart)).number ≡ 16
  pub apart_cells : cell_count apart ≡ 2
  -- linked, both are faulty only at one and the same position
  pub pair_total : (total counts pair (ones pair)).number ≡ 10
  pub fork_total : (total counts fork (ones fork)).number ≡ 28
  pub meeting_total : (total counts meeting (ones meeting)).number ≡ 22
  pub mesh_total : (total counts mesh (ones mesh)).number ≡ 760
  -- the longest repair of a tolerated pattern: both trios faulty at C
  pub pair_hours : total durations pair (repair 1 2 6 ∷ (repair 5 1 1 ∷ [])) ≡ hours 7

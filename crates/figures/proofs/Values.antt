-- The figures hold: both sides of each compute to one number.
use mathlib.Core.Path.{refl}
use Rattle.network.specs.Cells.{cells}
use Rattle.network.specs.Chains.{joined}
use Rattle.network.specs.Patterns.{patterns, tolerated, total}
use Rattle.figures.specs.Figures.{Figures}

pub figures : Figures
unfolding total patterns tolerated cells joined
figures = record {
  empty_total = refl;
  empty_cells = refl;
  apart_total = refl;
  apart_cells = refl;
  pair_total = refl;
  fork_total = refl;
  meeting_total = refl;
  mesh_total = refl;
  pair_hours = refl;
}

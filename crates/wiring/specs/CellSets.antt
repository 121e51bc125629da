-- What a cell holds.
use Rattle.std.specs.Prelude.{ℕ, Bool, false, not, ◌&&◌, is_some, Some, None, Option, ◌==◌, nat_lt}
use Rattle.network.specs.declared.Trio.{Trio}
use Rattle.network.specs.declared.Trio.TheVariants.{Voter, Module}
use Rattle.network.specs.Cells.{Members}
use Rattle.sets.specs.Lists.{first_of}
use Rattle.sets.specs.Sets.{member, members}
use Rattle.wiring.specs.declared.cell.Cell.{Cell}

abbrev pub holds : Cell → Trio → Bool
holds c (Voter v) = member c.voters v
holds c (Module m) = member c.modules m

-- a trio that a cabinet has room for
abbrev pub in_range : Trio → Bool
in_range (Voter v) = nat_lt v 16
in_range (Module m) = nat_lt m 16

-- the numbers of its voter trios and of its module trios
abbrev pub shown : Cell → Members
shown c = (members c.voters, members c.modules)

-- k is the number that there is
abbrev pub is_just : Option ℕ → ℕ → Bool
is_just None k = false
is_just (Some j) k = k == j

-- the trio is the first of the cell, voters before modules
abbrev pub starts_at : Cell → Trio → Bool
starts_at c (Voter v) = is_just (first_of (members c.voters)) v
starts_at c (Module m) = not (is_some (first_of (members c.voters))) && is_just (first_of (members c.modules)) m

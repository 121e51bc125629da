-- A cell taken by itself.
use Rattle.std.specs.Prelude.{map, length, filter, slice_index}
use Rattle.network.specs.Cells.{Members}
use Rattle.network.specs.Networks.{Link, Network, code_of, linked, pairs}
use Rattle.network.specs.declared.Trio.TheVariants.{Voter, Module}

-- the link of the cell's i-th voter trio and j-th module trio, in the network
abbrev pub in_place : Members → Link → Link
in_place cell l = (slice_index cell.0 l.0, slice_index cell.1 l.1)

-- The network that has just the trios of a cell and the links between them. The trios keep their order and their part
-- codes, and are numbered from 0 on.
unfoldable pub alone : Network → Members → Network
alone n cell = record {
  voters = map (λ v. code_of n (Voter v)) cell.0;
  modules = map (λ m. code_of n (Module m)) cell.1;
  links = filter (λ l. linked n (in_place cell l).0 (in_place cell l).1) (pairs (length cell.0) (length cell.1));
}

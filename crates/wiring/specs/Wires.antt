-- The links that a link table stands for.
use Rattle.std.specs.Prelude.{ℕ, Bool, ◌&&◌, List, map, filter, slice_index_or}
use Rattle.network.specs.Cells.{edge}
use Rattle.network.specs.Chains.{Edge}
use Rattle.network.specs.Networks.{Link}
use Rattle.sets.specs.Lists.{any}
use Rattle.sets.specs.Sets.{member}
use Rattle.sets.specs.declared.TrioSet.{TrioSet}
use Rattle.std.specs.List.{range_with_len, flat_map}
use Rattle.wiring.specs.declared.links.Links.{Links}

-- a row past the last feeds nothing
abbrev pub no_row : TrioSet
no_row = record { bits = 0 }

-- voter trio v feeds module trio m
unfoldable pub feeds : Links → ℕ → ℕ → Bool
feeds ls v m = member (slice_index_or ls.rows v no_row) m

-- some voter trio of the set feeds module trio m
unfoldable pub fed_by_some : Links → TrioSet → ℕ → Bool
fed_by_some ls voters m = any (λ v. member voters v && feeds ls v m) (range_with_len 0 16)

-- voter trio v feeds some module trio of the set
unfoldable pub feeds_some : Links → TrioSet → ℕ → Bool
feeds_some ls modules v = any (λ m. member modules m && feeds ls v m) (range_with_len 0 16)

-- every pair of a row and a place, rising
abbrev pub places : List Link
places = flat_map (λ v. map (λ m. (v, m)) (range_with_len 0 16)) (range_with_len 0 16)

-- the links that stand, rising
unfoldable pub link_list : Links → List Link
link_list ls = filter (λ l. feeds ls l.0 l.1) places

abbrev pub edge_list : Links → List Edge
edge_list ls = map edge (link_list ls)

-- The limits that every cabinet keeps.
use Rattle.std.specs.Prelude.{ℕ, Bool, ◌&&◌, nat_le}
use Rattle.sets.specs.Lists.{all}
use Rattle.network.specs.Cells.{width}
use Rattle.network.specs.Networks.{Network, Link, voter_count, module_count, has_voter, has_module, rising, trios}

abbrev pub most_voters : ℕ
most_voters = 16

abbrev pub most_modules : ℕ
most_modules = 15

-- voter trios in one cell
abbrev pub widest : ℕ
widest = 12

-- both ends of the link are trios of the network
abbrev pub inside : Network → Link → Bool
inside n l = has_voter n l.0 && has_module n l.1

-- no cell is too wide
abbrev pub narrow : Network → Bool
narrow n = all (λ t. nat_le (width n t) widest) (trios n)

unfoldable pub within_limits : Network → Bool
within_limits n =
    nat_le (voter_count n) most_voters && (nat_le (module_count n) most_modules && (rising n.links && (all (inside n) n.links && narrow n)))

-- What the cell method comes to on a scale.
use Rattle.std.specs.Prelude.{◌≡◌, ◌+◌, true, List, length}
use Rattle.algebra.specs.Laws.{Kind}
use Rattle.network.specs.Limits.{within_limits}
use Rattle.network.specs.Networks.{Network, module_count, voter_count}
use Rattle.network.specs.Patterns.{Weights, total}
use Rattle.method.specs.Method.{by_cells}

-- on every network within the limits and with weights for each trio, the product over the cells is the total
abbrev pub MethodAgrees : Kind → Type 0
MethodAgrees k =
    (n : Network) → within_limits n ≡ true → (ws : List (Weights k)) → length ws ≡ voter_count n + module_count n → by_cells k n ws ≡ total k n ws

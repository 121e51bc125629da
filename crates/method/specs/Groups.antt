-- Combinations of voter trios, and the groups that a combination falls into.
use Rattle.std.specs.Prelude.{ℕ, ◌/◌, ◌%◌, Bool, cond, not, ◌&&◌, List, [], ◌∷◌, map, filter, ◌==◌, nat_eq, nat_lt}
use Rattle.network.specs.Cells.{Members, edge}
use Rattle.network.specs.Chains.{joined}
use Rattle.network.specs.Networks.{Link, stands}
use Rattle.network.specs.declared.Trio.{Trio}
use Rattle.network.specs.declared.Trio.TheVariants.{Voter, Module}
use Rattle.sets.specs.Lists.{any}

-- A combination of voter trios: those that are faulty, all others being whole. Combination j has the i-th of the
-- voters where binary digit i of j is 1.
unfoldable pub combination : List ℕ → ℕ → List ℕ
combination [] j = []
combination (v ∷ vs) j = cond (j % 2 == 1) (v ∷ combination vs (j / 2)) (combination vs (j / 2))

abbrev pub among : List ℕ → ℕ → Bool
among vs v = any (nat_eq v) vs

-- the voters that are not in the combination
unfoldable pub left_out : List ℕ → List ℕ → List ℕ
left_out chosen vs = filter (λ v. not (among chosen v)) vs

-- the links of the voters in the combination; those of whole voters do not count
unfoldable pub links_of : List ℕ → List Link → List Link
links_of chosen ls = filter (λ l. among chosen l.0) ls

-- a chain of the combination's links joins the two trios
abbrev pub tied : List Link → List ℕ → Trio → Trio → Bool
tied ls chosen t u = joined (map edge (links_of chosen ls)) t u

-- the first voter of each group
unfoldable pub heads : List Link → List ℕ → List ℕ
heads ls chosen = filter (λ v. not (any (λ u. nat_lt u v && tied ls chosen (Voter u) (Voter v)) chosen)) chosen

-- The group of a voter: the voters that share modules with it, directly or by way of others of the combination,
-- and those of the modules ms that they feed.
unfoldable pub group : List Link → List ℕ → List ℕ → ℕ → Members
group ls chosen ms v =
    (filter (λ u. tied ls chosen (Voter v) (Voter u)) chosen, filter (λ m. tied ls chosen (Voter v) (Module m)) ms)

-- the modules that no voter of the combination feeds
unfoldable pub unfed : List Link → List ℕ → List ℕ → List ℕ
unfed ls chosen ms = filter (λ m. not (any (λ v. stands ls (v, m)) chosen)) ms

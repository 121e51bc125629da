-- Cells: the trios that chains of links hold together.
use Rattle.std.specs.Prelude.{ℕ, suc, Bool, true, false, cond, not, ◌&&◌, List, [], ◌∷◌, map, length, filter, nat_lt, slice_index_or}
use Rattle.std.specs.List.{range_with_len}
use Rattle.sets.specs.Lists.{any}
use Rattle.network.specs.Chains.{Edge, joined}
use Rattle.network.specs.Networks.{Network, Link, trios, voter_count, module_count}
use Rattle.network.specs.declared.Trio.{Trio}
use Rattle.network.specs.declared.Trio.TheVariants.{Voter, Module}

-- a link as an edge between its voter trio and its module trio
abbrev pub edge : Link → Edge
edge l = (Voter l.0, Module l.1)

abbrev pub edges : Network → List Edge
edges n = map edge n.links

-- the two trios are in one cell
abbrev pub together : Network → Trio → Trio → Bool
together n t u = joined (edges n) t u

-- the order of trios: voters first
abbrev pub precedes : Trio → Trio → Bool
precedes (Voter v) (Voter w) = nat_lt v w
precedes (Voter v) (Module m) = true
precedes (Module m) (Voter v) = false
precedes (Module m) (Module k) = nat_lt m k

-- t is the first trio of its cell
abbrev pub leads : Network → Trio → Bool
leads n t = not (any (λ u. precedes u t && together n t u) (trios n))

-- The cells in order, each by its first trio. A cell's number is its place here.
unfoldable pub cells : Network → List Trio
cells n = filter (leads n) (trios n)

abbrev pub cell_count : Network → ℕ
cell_count n = length (cells n)

-- how many elements stand before the first that passes
abbrev pub place : {X : Type 0} → (X → Bool) → List X → ℕ
place test [] = 0
place test (x ∷ xs) = cond (test x) 0 (suc (place test xs))

-- the number of a trio's cell
unfoldable pub cell_of : Network → Trio → ℕ
cell_of n t = place (together n t) (cells n)

-- the voter trios of the cell that t is in
unfoldable pub voters_with : Network → Trio → List ℕ
voters_with n t = filter (λ v. together n t (Voter v)) (range_with_len 0 (voter_count n))

-- the module trios of that cell
unfoldable pub modules_with : Network → Trio → List ℕ
modules_with n t = filter (λ m. together n t (Module m)) (range_with_len 0 (module_count n))

-- how many voter trios the cell of t holds
abbrev pub width : Network → Trio → ℕ
width n t = length (voters_with n t)

-- A cell by the numbers of its voter trios and of its module trios, each rising.
abbrev pub Members : Type 0
Members = List ℕ × List ℕ

abbrev pub members_with : Network → Trio → Members
members_with n t = (voters_with n t, modules_with n t)

-- the cells in order of their numbers
unfoldable pub all_cells : Network → List Members
all_cells n = map (members_with n) (cells n)

-- cell c, where there is one
abbrev pub cell_at : Network → ℕ → Members
cell_at n c = slice_index_or (all_cells n) c ([], [])

-- The network that a cabinet stands for: trios with their part codes, and links.
use Rattle.std.specs.Prelude.{ℕ, Bool, true, cond, not, ◌&&◌, ◌||◌, List, [], ◌∷◌, ◌++◌, map, length, filter, ◌==◌, nat_lt, slice_index}
use Rattle.std.specs.List.{range_with_len, flat_map}
use Rattle.sets.specs.Lists.{all, any}
use Rattle.network.specs.declared.Link.{Link as Ends}
use Rattle.network.specs.declared.Trio.{Trio}
use Rattle.network.specs.declared.Trio.TheVariants.{Voter, Module}

-- A link: the number of the voter trio, and of the module trio that it feeds, A to A, B to B and C to C.
abbrev pub Link : Type 0
Link = ℕ × ℕ

-- the link that a value of the code names
abbrev pub link_of : Ends → Link
link_of ends = (ends.voter, ends.«module»)

-- The part codes of the voter trios and of the module trios, each by number, and the links in order. Since the
-- links are in order, a network can be written in one way only.
pub record Network : Type 0 where
  pub voters : List ℕ
  pub modules : List ℕ
  pub links : List Link

abbrev pub empty : Network
empty = record { voters = []; modules = []; links = [] }

abbrev pub voter_count : Network → ℕ
voter_count n = length n.voters

abbrev pub module_count : Network → ℕ
module_count n = length n.modules

abbrev pub has_voter : Network → ℕ → Bool
has_voter n v = nat_lt v (voter_count n)

abbrev pub has_module : Network → ℕ → Bool
has_module n m = nat_lt m (module_count n)

-- the network has the trio
abbrev pub present : Network → Trio → Bool
present n (Voter v) = has_voter n v
present n (Module m) = has_module n m

-- the trios, voters first
abbrev pub trios : Network → List Trio
trios n = map Voter (range_with_len 0 (voter_count n)) ++ map Module (range_with_len 0 (module_count n))

-- the part code of a trio that the network has
abbrev pub code_of : Network → Trio → ℕ
code_of n (Voter v) = slice_index n.voters v
code_of n (Module m) = slice_index n.modules m

abbrev pub same_link : Link → Link → Bool
same_link k l = k.0 == l.0 && k.1 == l.1

-- the order of links: by voter, and by module among those of one voter
abbrev pub earlier : Link → Link → Bool
earlier k l = nat_lt k.0 l.0 || (k.0 == l.0 && nat_lt k.1 l.1)

-- each link comes before all that follow it
abbrev pub rising : List Link → Bool
rising [] = true
rising (l ∷ ls) = all (earlier l) ls && rising ls

-- the link stands
abbrev pub stands : List Link → Link → Bool
stands ls l = any (same_link l) ls

abbrev pub linked : Network → ℕ → ℕ → Bool
linked n v m = stands n.links (v, m)

-- every pair of a voter number below a and a module number below b, rising
abbrev pub pairs : ℕ → ℕ → List Link
pairs a b = flat_map (λ v. map (λ m. (v, m)) (range_with_len 0 b)) (range_with_len 0 a)

-- the links with one more, at its place
abbrev pub put : Link → List Link → List Link
put l [] = l ∷ []
put l (k ∷ ks) = cond (earlier l k) (l ∷ (k ∷ ks)) (cond (same_link l k) (k ∷ ks) (k ∷ put l ks))

-- the links without one
abbrev pub taken_out : Link → List Link → List Link
taken_out l ls = filter (λ k. not (same_link l k)) ls

abbrev pub with_link : ℕ → ℕ → Network → Network
with_link v m n = record { voters = n.voters; modules = n.modules; links = put (v, m) n.links }

abbrev pub without_link : ℕ → ℕ → Network → Network
without_link v m n = record { voters = n.voters; modules = n.modules; links = taken_out (v, m) n.links }

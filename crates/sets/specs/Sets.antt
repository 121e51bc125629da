-- What a set of trio numbers holds.
use Rattle.std.specs.Prelude.{ℕ, ◌/◌, ◌%◌, ◌^◌, Bool, ◌&&◌, List, filter, ◌==◌, nat_lt}
use Rattle.std.specs.List.{range_with_len}
use Rattle.sets.specs.Lists.{any}
use Rattle.sets.specs.declared.Iter.{Iter}
use Rattle.sets.specs.declared.TrioSet.{TrioSet}

-- i is in the set: bit i of its word is 1. Numbers from 16 on never are
unfoldable pub member : TrioSet → ℕ → Bool
member s i = nat_lt i 16 && s.bits / 2 ^ i % 2 == 1

-- the members, rising
unfoldable pub members : TrioSet → List ℕ
members s = filter (member s) (range_with_len 0 16)

-- some number is in both sets
unfoldable pub overlap : TrioSet → TrioSet → Bool
overlap s t = any (λ k. member s k && member t k) (range_with_len 0 16)

-- the members that an iterator has still to give
abbrev pub to_come : Iter → List ℕ
to_come iter = members iter.left

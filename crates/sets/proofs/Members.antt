-- What is in a set, and how many: from member to members and back.
use Rattle.std.proofs.Common.{◌≡◌, ℕ, ◌+◌, ◌-◌, ◌^◌, ◌<◌, ◌≤◌, Bool, true, false, ◌&&◌, eqb, ltb, ◌++◌, length, Some, None, filter, sym, ap, ◌∙◌, inl, inr, append-nil, arith}
use Rattle.std.specs.List.{range_with_len}
use Rattle.std.proofs.lemmas.List.Elements.{filter-append}
use Rattle.std.proofs.lemmas.Bool.{lt-ltb, le-ltb, ltb-true, and_left, and_parts, cases_lt}
use Rattle.sets.specs.declared.TrioSet.{TrioSet}
use Rattle.sets.specs.Lists.{any, first_of}
use Rattle.sets.specs.Sets.{member, members}
use Rattle.sets.proofs.Digits.{bit, bits_same, Tells}
use Rattle.sets.proofs.Kept.{in_kept, length_kept_le, kept_more, kept_full_below, kept_none, kept_first, kept_first_none, counting_split}

pub member_past : (s : TrioSet) (i : ℕ) → 16 ≤ i → member s i ≡ false
unfolding member
member_past s i h = and_left (ltb i 16) (bit s.bits i) (le-ltb i 16 h)

-- a member is below 16
pub member_below : (s : TrioSet) (i : ℕ) → member s i ≡ true → i < 16
unfolding member
member_below s i e = ltb-true i 16 (and_parts (ltb i 16) (bit s.bits i) e).0

-- below 16 a member is a bit of the word
pub member_bit : (s : TrioSet) (i : ℕ) → i < 16 → member s i ≡ bit s.bits i
unfolding member
member_bit s i h = ap (λ b. b && bit s.bits i) (lt-ltb i 16 h)

-- the members are the bits of the word
pub word_tells : (s : TrioSet) → Tells (member s) 0 16 s.bits
word_tells s k h = let e : 0 + k ≡ k = omega arith in ap (member s) e ∙ member_bit s k h

-- sets with the same members are the same
pub set_same : (s t : TrioSet) → s.bits < 2 ^ 16 → t.bits < 2 ^ 16 → ((k : ℕ) → member s k ≡ member t k) → s ≡ t
set_same s t hs ht same =
    let bits = bits_same 16 s.bits t.bits hs ht (λ k h. sym (member_bit s k h) ∙ same k ∙ member_bit t k h) in
    ap (λ (b : ℕ). record { bits = b }) bits

pub len_bound : (s : TrioSet) → length (members s) ≤ 16
unfolding members
len_bound s = length_kept_le (member s) (range_with_len 0 16)

-- t has all that s has
module _ (s t : TrioSet) (sub : (k : ℕ) → member s k ≡ true → member t k ≡ true) where
  pub subset_len : length (members s) ≤ length (members t)
  unfolding members
  subset_len = kept_more (member s) (member t) sub (range_with_len 0 16)

  -- and no more members, so s has all that t has
  pub full_subset : length (members t) ≤ length (members s) → (k : ℕ) → member t k ≡ true → member s k ≡ true
  unfolding members
  full_subset full k e = kept_full_below (member s) (member t) sub 16 full k (member_below t k e) e

-- where no number from n on is a member, the numbers below n are enough to look at
pub members_below : (s : TrioSet) (n : ℕ) → n ≤ 16 → ((k : ℕ) → n ≤ k → member s k ≡ false) → members s ≡ filter (member s) (range_with_len 0 n)
unfolding members
members_below s n le h =
    let on : 16 ≡ n + (16 - n) = omega arith in
    ap (λ m. filter (member s) (range_with_len 0 m)) on ∙ ap (filter (member s)) (counting_split 0 n (16 - n))
    ∙ filter-append (member s) (range_with_len 0 n) (range_with_len (0 + n) (16 - n))
    ∙ ap (λ l. filter (member s) (range_with_len 0 n) ++ l) (kept_none (member s) (0 + n) (16 - n) (λ k l u. h k (omega arith)))
    ∙ append-nil (filter (member s) (range_with_len 0 n))

pub first_least : (s : TrioSet) (i : ℕ) → first_of (members s) ≡ Some i → (member s i ≡ true) × (i < 16) × ((k : ℕ) → k < i → member s k ≡ false)
unfolding members
first_least s i e =
    let r = kept_first (member s) 0 16 i e in (r.0, omega (arith, r.2), λ k u. r.3 k (omega arith) u)

pub first_none : (s : TrioSet) → first_of (members s) ≡ None → (k : ℕ) → member s k ≡ false
unfolding members
first_none s e k = elim (cases_lt k 16) [ inl lt ↦ kept_first_none (member s) 0 16 e k (omega arith) (omega arith) | inr le ↦ member_past s k le ]

-- membership from the list
pub member_listed : (s : TrioSet) (q : ℕ → Bool) (n k : ℕ) → n ≤ 16 → k < n → members s ≡ filter q (range_with_len 0 n) → member s k ≡ q k
unfolding members
member_listed s q n k fits lt is = sym (in_kept (member s) 16 k (omega arith)) ∙ ap (any (eqb k)) is ∙ in_kept q n k lt

-- Growing a set of trios along the links until nothing is added gives the cell.
use Rattle.std.proofs.Common.{◌≡◌, ℕ, ◌+◌, ◌<◌, Bool, true, false, ◌&&◌, ◌||◌, eqb, ltb, get_or, sym, refl, ap, ◌∙◌, ⊎_elim, arith}
use Rattle.std.proofs.lemmas.Bool.{and_from, and_parts, and_right, cases_Bool, cases_eq, lt-ltb}
use Rattle.std.proofs.lemmas.Bool.Decides.{nat_tests}
use Rattle.sets.specs.Sets.{member, overlap}
use Rattle.sets.specs.declared.TrioSet.{TrioSet}
use Rattle.sets.proofs.Kept.{any_below_true}
use Rattle.wiring.specs.Wires.{feeds, feeds_some, no_row}
use Rattle.wiring.specs.declared.links.Links.{Links}
use Rattle.wiring.proofs.Rows.{feeds_range}

-- the row of a voter overlaps the set where the voter feeds some module of it
pub overlap_feeds : (ls : Links) (modules : TrioSet) (v : ℕ) → overlap modules (get_or ls.rows v no_row) ≡ feeds_some ls modules v
unfolding overlap feeds feeds_some
overlap_feeds ls modules v = refl

-- the voters below n that feed some module of the set
abbrev pub feeding_so_far : Links → TrioSet → ℕ → ℕ → Bool
feeding_so_far ls modules n v = ltb v n && feeds_some ls modules v

module _ (ls : Links) (modules found : TrioSet) (n : ℕ) (within : n < 16) (so_far : (v : ℕ) → member found v ≡ feeding_so_far ls modules n v) where
  pub feeding_more : (next : TrioSet) → feeds_some ls modules n ≡ true → ((v : ℕ) → member next v ≡ (member found v || (eqb v n && ltb n 16))) → (v : ℕ) → member next v ≡ feeding_so_far ls modules (n + 1) v
  feeding_more next there with v =
      with v ∙ ap (λ b. b || (eqb v n && ltb n 16)) (so_far v) ∙ ⊎_elim
      (λ e. let f : feeds_some ls modules v ≡ true = ap (feeds_some ls modules) e ∙ there in rw f (grind (arith, nat_tests)))
      (λ ne. grind (arith, nat_tests))
      (cases_eq v n)

  pub feeding_same : feeds_some ls modules n ≡ false → (v : ℕ) → member found v ≡ feeding_so_far ls modules (n + 1) v
  feeding_same gone v =
      so_far v ∙ ⊎_elim
      (λ e. let f : feeds_some ls modules v ≡ false = ap (feeds_some ls modules) e ∙ gone in rw f (grind (arith, nat_tests)))
      (λ ne. grind (arith, nat_tests))
      (cases_eq v n)

-- a voter past the last row feeds nothing
pub feeding_none : (ls : Links) (modules : TrioSet) (v : ℕ) → feeding_so_far ls modules 16 v ≡ feeds_some ls modules v
unfolding feeds_some
feeding_none ls modules v =
    ⊎_elim
    (λ h. let k = any_below_true (λ m. member modules m && feeds ls v m) 16 h in
    let r = feeds_range ls v k.0 (and_parts (member modules k.0) (feeds ls v k.0) k.2).1 in
    and_from _ _ (lt-ltb v 16 r.0) h ∙ sym h)
    (λ h. and_right (ltb v 16) (feeds_some ls modules v) h ∙ sym h)
    (cases_Bool (feeds_some ls modules v))

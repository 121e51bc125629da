-- The list of links that rows stand for: it rises, and a link stands in it where its row has its place.
use Rattle.std.proofs.Common.{◌≡◌, ℕ, ◌<◌, ◌≤◌, Bool, true, false, ◌&&◌, ltb, ◌⊎◌, List, [], ◌∷◌, map, get_or, filter, sym, refl, ap, ◌∙◌, inl, inr, ⊎_elim, arith}
use Rattle.std.specs.List.{range_with_len}
use Rattle.std.proofs.lemmas.List.{get_or_past}
use Rattle.std.proofs.lemmas.Bool.{and_from, and_right, both_ways, cases_Bool, cases_lt, eq-eqb}
use Rattle.network.specs.Networks.{Link, rising, same_link, stands}
use Rattle.network.proofs.Links.{one_list, rising_kept, same_link_is}
use Rattle.sets.specs.Lists.{any}
use Rattle.sets.specs.Sets.{member}
use Rattle.sets.proofs.Digits.{bit, bit_none}
use Rattle.sets.proofs.Kept.{any_below_from, any_joined, any_map}
use Rattle.sets.proofs.Members.{member_below}
use Rattle.wiring.specs.Wires.{feeds, link_list, no_row, places}
use Rattle.wiring.specs.declared.links.Links.{Links}

-- a link stands among those that a test keeps if it stood before and passes
pub stands_kept : (test : Link → Bool) (l : Link) (ls : List Link) → stands (filter test ls) l ≡ (stands ls l && test l)
stands_kept test l [] = refl
stands_kept test l (j ∷ js) = step (stands_kept test l js) (cases_Bool (same_link l j)) (cases_Bool (test j))
  where
    step : stands (filter test js) l ≡ (stands js l && test l) → (same_link l j ≡ true) ⊎ (same_link l j ≡ false) → (test j ≡ true) ⊎ (test j ≡ false) → stands (filter test (j ∷ js)) l ≡ (stands (j ∷ js) l && test l)
    step ih (inl p) (inl q) = let e : test l ≡ true = ap test (same_link_is l j p) ∙ q in rw (q, p, e)
    step ih (inl p) (inr q) = let e : test l ≡ false = ap test (same_link_is l j p) ∙ q in rw (q, p) (ih ∙ and_right (stands js l) (test l) e ∙ sym e)
    step ih (inr p) (inl q) = rw (q, p) ih
    step ih (inr p) (inr q) = rw (q, p) ih

-- every pair in range has its place
stands_places : (l : Link) → l.0 < 16 → l.1 < 16 → stands places l ≡ true
stands_places l first second =
    let row : ℕ → List Link = λ v. map (λ m. (v, m)) (range_with_len 0 16) in
    let at : any (same_link l) (row l.0) ≡ true =
    any_map (same_link l) (λ m. (l.0, m)) (range_with_len 0 16)
    ∙ any_below_from (λ m. same_link l (l.0, m)) 16 l.1 second (and_from _ _ (eq-eqb l.0 l.0 refl) (eq-eqb l.1 l.1 refl)) in
    any_joined (same_link l) row (range_with_len 0 16) ∙ any_below_from (λ v. any (same_link l) (row v)) 16 l.0 first at

pub nothing_in : (m : ℕ) → member no_row m ≡ false
unfolding member
nothing_in m = and_right (ltb m 16) (bit 0 m) (bit_none m)

-- only rows and places in range feed
pub feeds_range : (ls : Links) (v m : ℕ) → feeds ls v m ≡ true → (v < 16) × (m < 16)
unfolding feeds
feeds_range ls v m h = (⊎_elim (λ p. p) (λ p. absurd (both_ways _ (past p) h)) (cases_lt v 16), member_below (get_or ls.rows v no_row) m h)
  where
    past : 16 ≤ v → member (get_or ls.rows v no_row) m ≡ false
    past p = rw (get_or_past ls.rows v no_row (omega (arith, ls.long))) (nothing_in m)

pub stands_list : (ls : Links) (l : Link) → stands (link_list ls) l ≡ feeds ls l.0 l.1
unfolding link_list
stands_list ls l = stands_kept (λ k. feeds ls k.0 k.1) l places ∙ ⊎_elim on off (cases_Bool (feeds ls l.0 l.1))
  where
    on : feeds ls l.0 l.1 ≡ true → (stands places l && feeds ls l.0 l.1) ≡ feeds ls l.0 l.1
    on h = let r = feeds_range ls l.0 l.1 h in rw (stands_places l r.0 r.1)

    off : feeds ls l.0 l.1 ≡ false → (stands places l && feeds ls l.0 l.1) ≡ feeds ls l.0 l.1
    off h = and_right _ _ h ∙ sym h

pub rising_list : (ls : Links) → rising (link_list ls) ≡ true
unfolding link_list
rising_list ls = rising_kept (λ k. feeds ls k.0 k.1) places refl

-- rows that feed alike stand for one list
pub list_is : (ls : Links) (ks : List Link) → rising ks ≡ true → ((l : Link) → feeds ls l.0 l.1 ≡ stands ks l) → link_list ls ≡ ks
list_is ls ks h same = one_list (link_list ls) ks (rising_list ls) h (λ l. stands_list ls l ∙ same l)

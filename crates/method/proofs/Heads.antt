-- The groups of a combination: which trios are tied, and that each of its voters is in the group of just one head.
use Rattle.std.proofs.Common.{◌≡◌, ℕ, zero, suc, ◌<◌, Bool, true, false, not, ◌&&◌, ltb, List, map, filter, sym, refl, ap, ◌∙◌, inl, ⊎_elim, arith}
use Rattle.std.specs.List.{AllByRecursion as All}
use Rattle.std.proofs.ByRecursion.{all_kept_by}
use Rattle.std.proofs.lemmas.Bool.{and_from, and_parts, both_ways, cases_Bool, lt-ltb, ltb-true, not-false, not_from_true}
use Rattle.network.specs.Cells.{edge}
use Rattle.network.specs.Chains.{Chain, none, more, Edge, joined}
use Rattle.network.specs.Networks.{Link, same_link, stands}
use Rattle.network.specs.declared.Trio.{Trio}
use Rattle.network.specs.declared.Trio.TheVariants.{Voter, Module}
use Rattle.network.proofs.Chains.{chain_from_joined, joined_back, joined_beside, joined_itself, joined_on}
use Rattle.network.proofs.InOrder.{in_order_kept}
use Rattle.network.proofs.Inside.{link_step, step_link}
use Rattle.network.proofs.Links.{same_link_is}
use Rattle.sets.specs.Lists.{any}
use Rattle.sets.proofs.Kept.{any_kept, kept_same}
use Rattle.method.specs.Groups.{among, heads, links_of, tied, unfed}
use Rattle.method.proofs.Lists.{Rising, all_among, all_kept, any_among, any_kept_one, in_order_with, same_test, some_among}
use Rattle.method.proofs.Split.{Classes}

module _ (ls : List Link) (xs : List ℕ) where
  -- the combination's links
  pub stands_of : (v m : ℕ) → stands (links_of xs ls) (v, m) ≡ (among xs v && stands ls (v, m))
  unfolding links_of
  stands_of v m = any_kept_one (same_link (v, m)) (λ l. among xs l.0) (among xs v) ls (λ l e. ap (λ (j : Link). among xs j.0) (sym (same_link_is (v, m) l e)))

  abbrev es : List Edge
  es = map edge (links_of xs ls)

  pub tied_link : (v m : ℕ) → among xs v ≡ true → stands ls (v, m) ≡ true → tied ls xs (Voter v) (Module m) ≡ true
  tied_link v m here st =
      joined_beside es (Voter v) (Module m) (link_step (links_of xs ls) (v, m) (Voter v) (Module m) (stands_of v m ∙ and_from _ _ here st) (inl (refl, refl)))

  -- trios that are tied are tied to the same ones
  pub tied_alike : (h t u : Trio) → tied ls xs t u ≡ true → tied ls xs h t ≡ tied ls xs h u
  tied_alike h t u j = same_test (joined es h t) (joined es h u) (λ e. joined_on es h t u e j) (λ e. joined_on es h u t e (joined_back es t u j))

  -- a module that is tied to a voter is fed by one of the combination
  pub fed_by : (h m : ℕ) → tied ls xs (Voter h) (Module m) ≡ true → (v : ℕ) × (among xs v ≡ true) × (stands ls (v, m) ≡ true)
  fed_by h m j = first (Module m) (Voter h) (chain_from_joined es (Module m) (Voter h) (joined_back es (Voter h) (Module m) j)) refl refl
    where
      Fed : Type 0
      Fed = (v : ℕ) × (among xs v ≡ true) × (stands ls (v, m) ≡ true)

      apart : (a b : ℕ) → Module a ≡ Voter b → ⊥
      apart a b e = let z : ◌≡◌ {A = ℕ} 0 1 = cc in omega arith

      same_module : (a b : ℕ) → Module a ≡ Module b → a ≡ b
      same_module a b e = cc

      first : (t u : Trio) → Chain es t u → t ≡ Module m → u ≡ Voter h → Fed
      first t u (none) start end = absurd (apart m h (sym start ∙ end))
      first t u (more {u = x} b c) start end =
          let s = step_link (links_of xs ls) t x b in
          let v = s.0.0 in
          let r = s.0.1 in
          let both = and_parts (among xs v) (stands ls (v, r)) (sym (stands_of v r) ∙ s.1) in
          ⊎_elim
          (λ e. absurd (apart m v (sym start ∙ e.0)))
          (λ e. (v, both.0, ap (λ y. stands ls (v, y)) (same_module m r (sym start ∙ e.0)) ∙ both.1))
          s.2

  -- ---- heads

  abbrev earlier_tied : ℕ → ℕ → Bool
  earlier_tied v u = ltb u v && tied ls xs (Voter u) (Voter v)

  abbrev first_one : ℕ → Bool
  first_one v = not (any (earlier_tied v) xs)

  -- each voter is tied to a head
  pub to_head : (n v : ℕ) → v < n → among xs v ≡ true → any (λ h. tied ls xs (Voter h) (Voter v)) (heads ls xs) ≡ true
  unfolding heads
  to_head zero v lt here = absurd (omega arith)
  to_head (suc n) v lt here = ⊎_elim itself (λ e. by_other (some_among (earlier_tied v) xs (not-false (any (earlier_tied v) xs) e)) (to_head n)) (cases_Bool (first_one v))
    where
      Headed : ℕ → Type 0
      Headed u = any (λ h. tied ls xs (Voter h) (Voter u)) (filter first_one xs) ≡ true

      itself : first_one v ≡ true → Headed v
      itself e =
          any_kept (λ h. tied ls xs (Voter h) (Voter v)) first_one xs
          ∙ any_among (λ h. first_one h && tied ls xs (Voter h) (Voter v)) xs v here (and_from (first_one v) (tied ls xs (Voter v) (Voter v)) e (joined_itself es (Voter v)))

      by_other : (u : ℕ) × (among xs u ≡ true) × (earlier_tied v u ≡ true) → ((u : ℕ) → u < n → among xs u ≡ true → Headed u) → Headed v
      by_other w ih =
          let u = w.0 in
          let both = and_parts (ltb u v) (tied ls xs (Voter u) (Voter v)) w.2 in
          let less : u < n = omega (arith, ltb-true u v both.0) in
          let g = some_among (λ h. tied ls xs (Voter h) (Voter u)) (filter first_one xs) (ih u less w.1) in
          any_among (λ h. tied ls xs (Voter h) (Voter v)) (filter first_one xs) g.0 g.1 (joined_on es (Voter g.0) (Voter u) (Voter v) g.2 both.1)

  pub heads_among : All (λ h. among xs h ≡ true) (heads ls xs)
  unfolding heads
  heads_among = all_kept_by first_one (λ h. among xs h ≡ true) xs (all_among (λ h. among xs h ≡ true) xs (λ h here. here))

  -- no head is tied to an earlier voter
  apart_from : (g h : ℕ) → among xs g ≡ true → first_one h ≡ true → g < h → (t : Trio) → tied ls xs (Voter g) t ≡ true → tied ls xs (Voter h) t ≡ false
  apart_from g h here leads lt t j =
      ⊎_elim
      (λ e. absurd (both_ways (first_one h) (not_from_true (any (earlier_tied h) xs) (any_among (earlier_tied h) xs g here
      (and_from (ltb g h) (tied ls xs (Voter g) (Voter h)) (lt-ltb g h lt) (joined_on es (Voter g) t (Voter h) j (joined_back es (Voter h) t e))))) leads))
      (λ e. e)
      (cases_Bool (tied ls xs (Voter h) t))

  module _ (rises : Rising xs) where
    pub classes : Classes (λ h v. tied ls xs (Voter h) (Voter v)) (λ h m. tied ls xs (Voter h) (Module m)) (λ v m. stands ls (v, m)) (heads ls xs) xs
    unfolding heads
    classes =
        record {
          covers = all_among (λ v. any (λ h. tied ls xs (Voter h) (Voter v)) (heads ls xs) ≡ true) xs (λ v here. to_head (suc v) v (omega arith) here);
          apart = in_order_with (λ g h. g < h) (λ g h. ((v : ℕ) → tied ls xs (Voter g) (Voter v) ≡ true → tied ls xs (Voter h) (Voter v) ≡ false) × ((r : ℕ) → tied ls xs (Voter g) (Module r) ≡ true → tied ls xs (Voter h) (Module r) ≡ false))
              (λ h. (among xs h ≡ true) × (first_one h ≡ true))
              (λ g h at_g at_h lt. (λ v. apart_from g h at_g.0 at_h.1 lt (Voter v), λ r. apart_from g h at_g.0 at_h.1 lt (Module r)))
              (filter first_one xs)
              (all_kept first_one (λ h. among xs h ≡ true) (λ h. (among xs h ≡ true) × (first_one h ≡ true)) (λ h e here. (here, e)) xs (all_among (λ h. among xs h ≡ true) xs (λ h here. here)))
              (in_order_kept (λ g h. g < h) first_one xs rises);
          inside = all_among (λ v. (h : ℕ) (r : ℕ) → stands ls (v, r) ≡ true → tied ls xs (Voter h) (Voter v) ≡ tied ls xs (Voter h) (Module r)) xs
              (λ v here h r st. tied_alike (Voter h) (Voter v) (Module r) (tied_link v r here st));
        }

  -- the modules in no group are those that are not fed
  pub no_group_unfed : (ms : List ℕ) → filter (λ m. not (any (λ h. tied ls xs (Voter h) (Module m)) (heads ls xs))) ms ≡ unfed ls xs ms
  unfolding unfed
  no_group_unfed ms =
      kept_same (λ m. not (any (λ h. tied ls xs (Voter h) (Module m)) (heads ls xs))) (λ m. not (any (λ v. stands ls (v, m)) xs)) ms
      (λ m. ap not (same_test (any (λ h. tied ls xs (Voter h) (Module m)) (heads ls xs)) (any (λ v. stands ls (v, m)) xs) (there m) (back m)))
    where
      there : (m : ℕ) → any (λ h. tied ls xs (Voter h) (Module m)) (heads ls xs) ≡ true → any (λ v. stands ls (v, m)) xs ≡ true
      there m e =
          let g = some_among (λ h. tied ls xs (Voter h) (Module m)) (heads ls xs) e in
          let f = fed_by g.0 m g.2 in
          any_among (λ v. stands ls (v, m)) xs f.0 f.1 f.2

      back : (m : ℕ) → any (λ v. stands ls (v, m)) xs ≡ true → any (λ h. tied ls xs (Voter h) (Module m)) (heads ls xs) ≡ true
      back m e =
          let f = some_among (λ v. stands ls (v, m)) xs e in
          let g = some_among (λ h. tied ls xs (Voter h) (Voter f.0)) (heads ls xs) (to_head (suc f.0) f.0 (omega arith) f.1) in
          any_among (λ h. tied ls xs (Voter h) (Module m)) (heads ls xs) g.0 g.1 (joined_on es (Voter g.0) (Voter f.0) (Module m) g.2 (tied_link f.0 m f.1 f.2))

-- Chains stay among the trios that the network has.
use Rattle.std.proofs.Common.{◌≡◌, Bool, true, false, ◌&&◌, ◌⊎◌, List, [], ◌∷◌, map, sym, refl, ◌∙◌, subst, inl, inr, ⊎_elim, arith}
use Rattle.std.specs.List.{range_with_len}
use Rattle.std.proofs.lemmas.Bool.{or_cases, or_left, or_right, and_parts, and_from, false≢true, ltb-true, lt-ltb}
use Rattle.sets.specs.Lists.{all, any}
use Rattle.network.specs.Cells.{edge, edges}
use Rattle.network.specs.Chains.{Chain, none, more, ends_at, same_trio}
use Rattle.network.specs.Limits.{inside}
use Rattle.network.specs.Networks.{Link, Network, module_count, present, same_link, stands, trios, voter_count}
use Rattle.network.specs.declared.Trio.{Trio}
use Rattle.network.specs.declared.Trio.TheVariants.{Voter, Module}
use Rattle.network.proofs.Chains.{same_is, same_itself}
use Rattle.network.proofs.Links.{same_link_is, same_link_itself}
use Rattle.network.proofs.Lists.{all_append, all_counting, all_counting_at, all_map}

abbrev voter_trios : Network → List Trio
voter_trios n = map Voter (range_with_len 0 (voter_count n))

abbrev module_trios : Network → List Trio
module_trios n = map Module (range_with_len 0 (module_count n))

-- a test passed by all trios of the list is passed by each that the network has, and the other way round
pub each_trio : (n : Network) (p : Trio → Bool) → all p (trios n) ≡ true → (t : Trio) → present n t ≡ true → p t ≡ true
each_trio n p h t k =
    let both = and_parts (all p (voter_trios n)) (all p (module_trios n)) (sym (all_append p (voter_trios n) (module_trios n)) ∙ h) in
    at t k both.0 both.1
  where
    at : (t : Trio) → present n t ≡ true → all p (voter_trios n) ≡ true → all p (module_trios n) ≡ true → p t ≡ true
    at (Voter v) k vs ms =
        all_counting_at (λ x. p (Voter x)) 0 (voter_count n) (sym (all_map p Voter (range_with_len 0 (voter_count n))) ∙ vs) v (omega arith) (omega (arith, ltb-true v (voter_count n) k))
    at (Module m) k vs ms =
        all_counting_at (λ x. p (Module x)) 0 (module_count n) (sym (all_map p Module (range_with_len 0 (module_count n))) ∙ ms) m (omega arith) (omega (arith, ltb-true m (module_count n) k))

pub all_trios : (n : Network) (p : Trio → Bool) → ((t : Trio) → present n t ≡ true → p t ≡ true) → all p (trios n) ≡ true
all_trios n p h =
    let vs : all p (voter_trios n) ≡ true =
    all_map p Voter (range_with_len 0 (voter_count n)) ∙ all_counting (λ x. p (Voter x)) 0 (voter_count n) (λ v low high. h (Voter v) (lt-ltb v (voter_count n) (omega arith))) in
    let ms : all p (module_trios n) ≡ true =
    all_map p Module (range_with_len 0 (module_count n)) ∙ all_counting (λ x. p (Module x)) 0 (module_count n) (λ m low high. h (Module m) (lt-ltb m (module_count n) (omega arith))) in
    all_append p (voter_trios n) (module_trios n) ∙ and_from _ _ vs ms

-- a link that stands passes what all links pass
pub stands_passes : (test : Link → Bool) (l : Link) (ls : List Link) → all test ls ≡ true → stands ls l ≡ true → test l ≡ true
stands_passes test l [] h k = absurd (false≢true k)
stands_passes test l (j ∷ js) h k =
    let parts = and_parts (test j) (all test js) h in
    let P : Link → Type 0 = λ x. test x ≡ true in
    ⊎_elim (λ p. subst P (sym (same_link_is l j p)) parts.0) (stands_passes test l js parts.1) (or_cases (same_link l j) (stands js l) k)

-- t and u are the two ends of the link l
abbrev pub Ends : Link → Trio → Trio → Type 0
Ends l t u = ((t ≡ Voter l.0) × (u ≡ Module l.1)) ⊎ ((t ≡ Module l.1) × (u ≡ Voter l.0))

-- one step of a chain goes along a link that stands
pub step_link : (ls : List Link) (t u : Trio) → any (ends_at t u) (map edge ls) ≡ true → (l : Link) × (stands ls l ≡ true) × Ends l t u
step_link [] t u h = absurd (false≢true h)
step_link (j ∷ js) t u h = ⊎_elim here (λ p. past (step_link js t u p)) (or_cases _ _ h)
  where
    here : ends_at t u (edge j) ≡ true → (l : Link) × (stands (j ∷ js) l ≡ true) × Ends l t u
    here p =
        ⊎_elim
        (λ q. let parts = and_parts _ _ q in (j, or_left _ _ (same_link_itself j), inl (sym (same_is _ t parts.0), sym (same_is _ u parts.1))))
        (λ q. let parts = and_parts _ _ q in (j, or_left _ _ (same_link_itself j), inr (sym (same_is _ t parts.1), sym (same_is _ u parts.0))))
        (or_cases _ _ p)

    past : (l : Link) × (stands js l ≡ true) × Ends l t u → (l : Link) × (stands (j ∷ js) l ≡ true) × Ends l t u
    past w = (w.0, or_right _ _ w.1, w.2)

-- and a link that stands makes a step, both ways
pub link_step : (ls : List Link) (l : Link) (t u : Trio) → stands ls l ≡ true → Ends l t u → any (ends_at t u) (map edge ls) ≡ true
link_step [] l t u h e = absurd (false≢true h)
link_step (j ∷ js) l t u h e =
    ⊎_elim (λ p. or_left _ _ (here (same_link_is l j p) e)) (λ p. or_right _ _ (link_step js l t u p e)) (or_cases _ _ h)
  where
    here : l ≡ j → Ends l t u → ends_at t u (edge j) ≡ true
    here p ends =
        let P : Link → Type 0 = λ x. ends_at t u (edge x) ≡ true in
        subst P p (along ends)
      where
        both : (same_trio (Voter l.0) (Voter l.0) && same_trio (Module l.1) (Module l.1)) ≡ true
        both = and_from _ _ (same_itself (Voter l.0)) (same_itself (Module l.1))

        along : Ends l t u → ends_at t u (edge l) ≡ true
        along (inl q) = rw (q.0, q.1) (or_left _ false both)
        along (inr q) = rw (q.0, q.1) both

-- both ends of a step are trios of the network
pub step_present : (n : Network) (t u : Trio) → all (inside n) n.links ≡ true → any (ends_at t u) (edges n) ≡ true → (present n t ≡ true) × (present n u ≡ true)
step_present n t u h k =
    let s = step_link n.links t u k in
    let i = and_parts _ _ (stands_passes (inside n) s.0 n.links h s.1) in
    ⊎_elim (λ e. (rw e.0 i.0, rw e.1 i.1)) (λ e. (rw e.0 i.1, rw e.1 i.0)) s.2

-- a chain between two trios that are not one stays inside
pub chain_present : (n : Network) (t u : Trio) → all (inside n) n.links ≡ true → Chain (edges n) t u → (t ≡ u) ⊎ ((present n t ≡ true) × (present n u ≡ true))
chain_present n t u h (none) = inl refl
chain_present n t u h (more {u = w} b c) =
    let s = step_present n t w h b in
    let P : Trio → Type 0 = λ x. present n x ≡ true in
    inr (s.0, ⊎_elim (λ e. subst P e s.1) (λ p. p.1) (chain_present n w u h c))

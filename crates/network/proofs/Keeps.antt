-- Every change that is not refused keeps the limits.
use Rattle.std.proofs.Common.{◌≡◌, ℕ, ◌+◌, ◌≤◌, Bool, true, false, cond, not, ltb, leb, ◌⊎◌, List, [], ◌∷◌, ◌++◌, map, length, set, Some, None, filter, Option, sym, refl, ap, ◌∙◌, subst, inl, inr, ⊎_elim, arith, length-append, length-set}
use Rattle.std.specs.List.{range_with_len}
use Rattle.std.proofs.lemmas.Bool.{or_cases, and_parts, and_from, both_ways, cases_Bool, not_from_false, not-true, not-false, leb-true, le-leb, leb-false, ltb-true, lt-ltb, ltb-false}
use Rattle.sets.specs.Lists.{all}
use Rattle.network.specs.Cells.{edge, edges, voters_with, width}
use Rattle.network.specs.Chains.{Chain, none, more, joined}
use Rattle.network.specs.Limits.{inside, narrow, most_voters, most_modules, widest, within_limits}
use Rattle.network.specs.Networks.{Link, Network, has_module, has_voter, linked, module_count, present, put, rising, same_link, stands, voter_count, with_link, without_link}
use Rattle.network.specs.Changes.{Change, add_voter, add_module, link, cut, change_part, changed, checks, LimitsKept, network_after, refusal, too_wide, unless}
use Rattle.refusals.specs.Refusals.{Check, first_due}
use Rattle.refusals.specs.declared.Refusal.{Refusal}
use Rattle.network.specs.declared.Trio.{Trio}
use Rattle.network.specs.declared.Trio.TheVariants.{Voter, Module}
use Rattle.network.proofs.Chains.{chain_from_joined, joined_back, joined_beside, joined_from_chain, joined_itself, joined_on}
use Rattle.network.proofs.Inside.{all_trios, chain_present, each_trio, link_step, step_link}
use Rattle.network.proofs.Links.{all_kept, all_put, rising_put, rising_taken_out, same_link_is, stands_put, stands_taken_out}
use Rattle.network.proofs.Lists.{kept_counting_more}
use Rattle.sets.proofs.Kept.{kept_more, kept_none}

-- the limits, one by one
pub record Limits (n : Network) : Type 0 where
  pub few_voters : voter_count n ≤ 16
  pub few_modules : module_count n ≤ 15
  pub rises : rising n.links ≡ true
  pub insides : all (inside n) n.links ≡ true
  pub narrows : (t : Trio) → width n t ≤ 12

-- a trio that the network lacks is in a cell with no voter trio of it
lone : (n : Network) (t : Trio) → all (inside n) n.links ≡ true → present n t ≡ false → voters_with n t ≡ []
unfolding voters_with
lone n t ins gone =
    kept_none (λ v. joined (edges n) t (Voter v)) 0 (voter_count n)
    (λ v low high. ⊎_elim
    (λ j. absurd (⊎_elim
    (λ e. both_ways (present n t) gone (let P : Trio → Type 0 = λ x. present n x ≡ true in subst P (sym e) (lt-ltb v (voter_count n) (omega arith))))
    (λ p. both_ways (present n t) gone p.0)
    (chain_present n t (Voter v) ins (chain_from_joined (edges n) t (Voter v) j))))
    (λ j. j)
    (cases_Bool (joined (edges n) t (Voter v))))

pub limits : (n : Network) → within_limits n ≡ true → Limits n
unfolding within_limits
limits n h =
    let a = and_parts (leb (voter_count n) most_voters) _ h in
    let b = and_parts (leb (module_count n) most_modules) _ a.1 in
    let c = and_parts (rising n.links) _ b.1 in
    let d = and_parts (all (inside n) n.links) (narrow n) c.1 in
    record {
      few_voters = leb-true _ _ a.0;
      few_modules = leb-true _ _ b.0;
      rises = c.0;
      insides = d.0;
      narrows = λ t. ⊎_elim (λ p. leb-true (width n t) 12 (each_trio n (λ u. leb (width n u) widest) d.1 t p)) (λ p. omega (arith, ap length (lone n t d.0 p))) (cases_Bool (present n t));
    }

pub within : (n : Network) → Limits n → within_limits n ≡ true
unfolding within_limits
within n l =
    and_from _ _ (le-leb _ _ l.few_voters)
    (and_from _ _ (le-leb _ _ l.few_modules)
    (and_from _ _ l.rises
    (and_from _ _ l.insides
    (all_trios n (λ t. leb (width n t) widest) (λ t _. le-leb (width n t) 12 (l.narrows t))))))

-- width by the chains that there are
width_under : (n o : Network) (t u : Trio) → voter_count n ≡ voter_count o → ((v : ℕ) → joined (edges n) t (Voter v) ≡ true → joined (edges o) u (Voter v) ≡ true) → width n t ≤ width o u
unfolding voters_with
width_under n o t u same h =
    let P : ℕ → Type 0 = λ k. length (filter (λ v. joined (edges n) t (Voter v)) (range_with_len 0 (voter_count n))) ≤ length (filter (λ v. joined (edges o) u (Voter v)) (range_with_len 0 k)) in
    subst P same (kept_more (λ v. joined (edges n) t (Voter v)) (λ v. joined (edges o) u (Voter v)) h (range_with_len 0 (voter_count n)))

-- with more links standing there are more chains
pub chain_sub : (ks ls : List Link) → ((l : Link) → stands ks l ≡ true → stands ls l ≡ true) → (t u : Trio) → Chain (map edge ks) t u → Chain (map edge ls) t u
chain_sub ks ls sub t u (none) = none
chain_sub ks ls sub t u (more {u = w} b c) =
    let s = step_link ks t w b in
    more (link_step ls s.0 t w (sub s.0 s.1) s.2) (chain_sub ks ls sub w u c)

-- a chain away from a new link is a chain without it
chain_away : (l : Link) (ls : List Link) (t u : Trio) → joined (map edge (put l ls)) t (Voter l.0) ≡ false → Chain (map edge (put l ls)) t u → Chain (map edge ls) t u
chain_away l ls t u away (none) = none
chain_away l ls t u away (more {u = w} b c) =
    let es = map edge (put l ls) in
    let s = step_link (put l ls) t w b in
    let old : stands ls s.0 ≡ true =
    ⊎_elim (λ p. absurd (both_ways _ away (meets s.0 (same_link_is s.0 l p) s.1 s.2))) (λ p. p) (or_cases (same_link s.0 l) (stands ls s.0) (sym (stands_put l s.0 ls) ∙ s.1)) in
    let still : joined es w (Voter l.0) ≡ false =
    ⊎_elim (λ p. absurd (both_ways _ away (joined_on es t w (Voter l.0) (joined_beside es t w b) p))) (λ p. p) (cases_Bool (joined es w (Voter l.0))) in
    more (link_step ls s.0 t w old s.2) (chain_away l ls w u still c)
  where
    open_end : (k : Link) → k ≡ l → stands (put l ls) k ≡ true → (x : Trio) → x ≡ Module k.1 → joined (map edge (put l ls)) x (Voter l.0) ≡ true
    open_end k e st x q =
        let P : Link → Type 0 = λ y. joined (map edge (put l ls)) x (Voter y.0) ≡ true in
        subst P e (joined_beside (map edge (put l ls)) x (Voter k.0) (link_step (put l ls) k x (Voter k.0) st (inr (q, refl))))

    near_end : (k : Link) → k ≡ l → (x : Trio) → x ≡ Voter k.0 → joined (map edge (put l ls)) x (Voter l.0) ≡ true
    near_end k e x q =
        let P : Link → Type 0 = λ y. joined (map edge (put l ls)) x (Voter y.0) ≡ true in
        let R : Trio → Type 0 = λ y. joined (map edge (put l ls)) x y ≡ true in
        subst P e (subst R q (joined_itself (map edge (put l ls)) x))

    meets : (k : Link) → k ≡ l → stands (put l ls) k ≡ true → ((t ≡ Voter k.0) × (w ≡ Module k.1)) ⊎ ((t ≡ Module k.1) × (w ≡ Voter k.0)) → joined (map edge (put l ls)) t (Voter l.0) ≡ true
    meets k e st (inl q) = near_end k e t q.0
    meets k e st (inr q) = open_end k e st t q.0

-- links that all pass a test all pass a weaker one
all_weaker : (p q : Link → Bool) (ls : List Link) → ((l : Link) → p l ≡ true → q l ≡ true) → all p ls ≡ true → all q ls ≡ true
all_weaker p q [] w h = refl
all_weaker p q (l ∷ ls) w h = let parts = and_parts (p l) (all p ls) h in and_from _ _ (w l parts.0) (all_weaker p q ls w parts.1)

keeps_link : (v m : ℕ) (n : Network) → Limits n → has_voter n v ≡ true → has_module n m ≡ true → ltb widest (width (with_link v m n) (Voter v)) ≡ false → Limits (with_link v m n)
keeps_link v m n l there fed fits =
    let o = with_link v m n in
    let es = edges o in
    let at : width o (Voter v) ≤ 12 = ltb-false 12 (width o (Voter v)) fits in
    record {
      few_voters = l.few_voters;
      few_modules = l.few_modules;
      rises = rising_put (v, m) n.links l.rises;
      insides = all_put (inside n) (v, m) n.links (and_from _ _ there fed) l.insides;
      narrows = λ t. ⊎_elim
          (λ j. let h = width_under o o t (Voter v) refl (λ w k. joined_on es (Voter v) t (Voter w) (joined_back es t (Voter v) j) k) in omega (arith, h))
          (λ j. let h = width_under o n t t refl (λ w k. joined_from_chain (edges n) t (Voter w) (chain_away (v, m) n.links t (Voter w) j (chain_from_joined es t (Voter w) k))) in omega (arith, h, l.narrows t))
          (cases_Bool (joined es t (Voter v)));
    }

keeps_cut : (v m : ℕ) (n : Network) → Limits n → Limits (without_link v m n)
keeps_cut v m n l =
    let o = without_link v m n in
    let fewer : (k : Link) → stands o.links k ≡ true → stands n.links k ≡ true =
    λ k h. (and_parts (not (same_link (v, m) k)) (stands n.links k) (sym (stands_taken_out (v, m) k n.links) ∙ h)).1 in
    record {
      few_voters = l.few_voters;
      few_modules = l.few_modules;
      rises = rising_taken_out (v, m) n.links l.rises;
      insides = all_kept (inside n) (λ k. not (same_link (v, m) k)) n.links l.insides;
      narrows = λ t. let h = width_under o n t t refl (λ w k. joined_from_chain (edges n) t (Voter w) (chain_sub o.links n.links fewer t (Voter w) (chain_from_joined (edges o) t (Voter w) k))) in omega (arith, h, l.narrows t);
    }

abbrev one_voter_more : ℕ → Network → Network
one_voter_more code n = record { voters = n.voters ++ (code ∷ []); modules = n.modules; links = n.links }

abbrev one_module_more : ℕ → Network → Network
one_module_more code n = record { voters = n.voters; modules = n.modules ++ (code ∷ []); links = n.links }

-- a new voter trio joins no cell but its own
width_more : (code : ℕ) (n : Network) → Limits n → (t : Trio) → width (one_voter_more code n) t ≤ 12
unfolding voters_with
width_more code n l t =
    let test : ℕ → Bool = λ v. joined (edges n) t (Voter v) in
    let count = voter_count n in
    let grown : length (filter test (range_with_len 0 (count + 1))) ≡ length (filter test (range_with_len 0 count)) + length (cond (test (0 + count)) ((0 + count) ∷ []) []) =
    ap length (kept_counting_more test 0 count) ∙ length-append _ _ in
    let old = l.narrows t in
    let size : voter_count (one_voter_more code n) ≡ count + 1 = length-append n.voters (code ∷ []) in
    let few : length (filter test (range_with_len 0 (count + 1))) ≤ 12 =
    ⊎_elim
    (λ p. let alone = lone n t l.insides p in omega (arith, grown, ap length alone, short (test (0 + count)) (0 + count)))
    (λ p. let last = apart p in omega (arith, grown, rw last at grown, old))
    (other (cases_Bool (present n t))) in
    let P : ℕ → Type 0 = λ k. length (filter test (range_with_len 0 k)) ≤ 12 in
    subst P (sym size) few
  where
    other : (present n t ≡ true) ⊎ (present n t ≡ false) → (present n t ≡ false) ⊎ (present n t ≡ true)
    other (inl p) = inr p
    other (inr p) = inl p

    short : (b : Bool) (k : ℕ) → length (cond b (k ∷ []) []) ≤ 1
    short true k = omega arith
    short false k = omega arith

    apart : present n t ≡ true → joined (edges n) t (Voter (0 + voter_count n)) ≡ false
    apart p =
        ⊎_elim
        (λ j. absurd (⊎_elim
        (λ e. let P : Trio → Type 0 = λ x. present n x ≡ true in let h = subst P e p in omega (arith, ltb-true (0 + voter_count n) (voter_count n) h))
        (λ q. omega (arith, ltb-true (0 + voter_count n) (voter_count n) q.1))
        (chain_present n t (Voter (0 + voter_count n)) l.insides (chain_from_joined (edges n) t (Voter (0 + voter_count n)) j))))
        (λ j. j)
        (cases_Bool (joined (edges n) t (Voter (0 + voter_count n))))

keeps_voter : (code : ℕ) (n : Network) → Limits n → leb most_voters (voter_count n) ≡ false → Limits (one_voter_more code n)
keeps_voter code n l free =
    let size : voter_count (one_voter_more code n) ≡ voter_count n + 1 = length-append n.voters (code ∷ []) in
    let fits = leb-false most_voters (voter_count n) free in
    record {
      few_voters = omega (arith, size, fits);
      few_modules = l.few_modules;
      rises = l.rises;
      insides = all_weaker (inside n) (inside (one_voter_more code n)) n.links
          (λ k h. let parts = and_parts (has_voter n k.0) (has_module n k.1) h in and_from _ _ (lt-ltb k.0 (voter_count (one_voter_more code n)) (omega (arith, size, ltb-true k.0 (voter_count n) parts.0))) parts.1) l.insides;
      narrows = width_more code n l;
    }

keeps_module : (code : ℕ) (n : Network) → Limits n → leb most_modules (module_count n) ≡ false → Limits (one_module_more code n)
unfolding voters_with
keeps_module code n l free =
    let size : module_count (one_module_more code n) ≡ module_count n + 1 = length-append n.modules (code ∷ []) in
    let fits = leb-false most_modules (module_count n) free in
    record {
      few_voters = l.few_voters;
      few_modules = omega (arith, size, fits);
      rises = l.rises;
      insides = all_weaker (inside n) (inside (one_module_more code n)) n.links
          (λ k h. let parts = and_parts (has_voter n k.0) (has_module n k.1) h in and_from _ _ parts.0 (lt-ltb k.1 (module_count (one_module_more code n)) (omega (arith, size, ltb-true k.1 (module_count n) parts.1)))) l.insides;
      narrows = l.narrows;
    }

-- other codes on as many trios change no limit
keeps_codes : (vs ms : List ℕ) (n : Network) → Limits n → length vs ≡ voter_count n → length ms ≡ module_count n → Limits (record { voters = vs; modules = ms; links = n.links })
keeps_codes vs ms n l same_vs same_ms =
    let o : Network = record { voters = vs; modules = ms; links = n.links } in
    record {
      few_voters = omega (arith, same_vs, l.few_voters);
      few_modules = omega (arith, same_ms, l.few_modules);
      rises = l.rises;
      insides = all_weaker (inside n) (inside o) n.links (λ k h. rw (same_vs, same_ms) h) l.insides;
      narrows = λ t. let h = width_under o n t t same_vs (λ w k. k) in omega (arith, h, l.narrows t);
    }

-- no refusal is due where every test fails
due_none : (cs : List Check) → first_due cs ≡ None → all (λ c. not c.0) cs ≡ true
due_none [] h = refl
due_none (c ∷ cs) h = ⊎_elim (λ p. absurd (some c.1 (rw p at h))) (λ p. and_from _ _ (not_from_false _ p) (due_none cs (rw p at h))) (cases_Bool c.0)
  where
    some : (e : Refusal) → ◌≡◌ {A = Option Refusal} (Some e) None → ⊥
    some e q = let z : ◌≡◌ {A = ℕ} 0 1 = cc in omega arith

keeps : (change : Change) (n : Network) → Limits n → all (λ c. not c.0) (checks change n) ≡ true → Limits (changed change n)
unfolding voters_with
keeps (add_voter code) n l h = keeps_voter code n l (not-true _ (and_parts _ true h).0)
keeps (add_module code) n l h = keeps_module code n l (not-true _ (and_parts _ true h).0)
keeps (link v m) n l h =
    let a = and_parts (not (not (has_voter n v))) _ h in
    let b = and_parts (not (not (has_module n m))) _ a.1 in
    let c = and_parts (not (linked n v m)) _ b.1 in
    let d = and_parts (not (too_wide v m n)) true c.1 in
    keeps_link v m n l (not-false _ (not-true _ a.0)) (not-false _ (not-true _ b.0)) (not-true _ d.0)
keeps (cut v m) n l h = keeps_cut v m n l
keeps (change_part (Voter v) code) n l h = keeps_codes (set n.voters v code) n.modules n l (length-set n.voters v code) refl
keeps (change_part (Module m) code) n l h = keeps_codes n.voters (set n.modules m code) n l refl (length-set n.modules m code)

-- a change that no check refuses keeps the limits
pub limits_changed : (change : Change) (n : Network) → within_limits n ≡ true → refusal change n ≡ None → within_limits (changed change n) ≡ true
unfolding refusal
limits_changed change n h free = within (changed change n) (keeps change n (limits n h) (due_none (checks change n) free))

pub limits_kept : LimitsKept
unfolding network_after
limits_kept change n h = by (refusal change n) refl
  where
    by : (due : Option Refusal) → refusal change n ≡ due → within_limits (unless due (changed change n) n) ≡ true
    by None e = limits_changed change n h e
    by (Some x) e = h

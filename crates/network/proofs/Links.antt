-- Rising lists of links: what `put` and `taken_out` leave standing, and that a set of links has one such list.
use Rattle.std.proofs.Common.{◌≡◌, ℕ, Bool, true, false, cond, not, ◌&&◌, ◌||◌, ◌⊎◌, List, [], ◌∷◌, filter, sym, refl, ap, ◌∙◌, subst, ap₂, inl, inr, ⊎_elim, arith}
use Rattle.std.proofs.lemmas.Bool.{or_cases, or_left, or_from, and_parts, and_from, eqb-true, eq-eqb, false≢true, both_ways, cases_Bool, cond_both}
use Rattle.std.proofs.lemmas.Bool.Decides.{nat_tests}
use Rattle.sets.specs.Lists.{all}
use Rattle.network.specs.Networks.{Link, earlier, put, rising, same_link, stands, taken_out}

pub same_link_itself : (l : Link) → same_link l l ≡ true
same_link_itself l = and_from _ _ (eq-eqb l.0 l.0 refl) (eq-eqb l.1 l.1 refl)

pub same_link_is : (k l : Link) → same_link k l ≡ true → k ≡ l
same_link_is k l h =
    let parts = and_parts _ _ h in
    ap₂ (λ (a b : ℕ). (a, b)) (eqb-true k.0 l.0 parts.0) (eqb-true k.1 l.1 parts.1)

-- links are in one order
pub earlier_on : (j k l : Link) → earlier j k ≡ true → earlier k l ≡ true → earlier j l ≡ true
earlier_on j k l p q = grind (arith, nat_tests)

pub earlier_not_back : (k l : Link) → earlier k l ≡ true → earlier l k ≡ false
earlier_not_back k l p = grind (arith, nat_tests)

pub earlier_not_same : (k l : Link) → earlier k l ≡ true → same_link k l ≡ false
earlier_not_same k l p = grind (arith, nat_tests)

pub earlier_not_same_back : (k l : Link) → earlier k l ≡ true → same_link l k ≡ false
earlier_not_same_back k l p = grind (arith, nat_tests)

pub not_earlier : (k l : Link) → earlier k l ≡ false → same_link k l ≡ false → earlier l k ≡ true
not_earlier k l p q = grind (arith, nat_tests)

-- where a link comes after k, so does each that follows
all_later : (k l : Link) (ls : List Link) → earlier k l ≡ true → all (earlier l) ls ≡ true → all (earlier k) ls ≡ true
all_later k l [] p h = refl
all_later k l (j ∷ ls) p h =
    let parts = and_parts (earlier l j) (all (earlier l) ls) h in
    and_from _ _ (earlier_on k l j p parts.0) (all_later k l ls p parts.1)

-- what stands in a list whose links all come after k comes after k
stands_later : (k l : Link) (ls : List Link) → all (earlier k) ls ≡ true → stands ls l ≡ true → earlier k l ≡ true
stands_later k l [] h p = absurd (false≢true p)
stands_later k l (j ∷ ls) h p =
    let parts = and_parts (earlier k j) (all (earlier k) ls) h in
    let P : Link → Type 0 = λ x. earlier k x ≡ true in
    ⊎_elim (λ q. subst P (sym (same_link_is l j q)) parts.0) (stands_later k l ls parts.1) (or_cases (same_link l j) (stands ls l) p)

-- so k itself does not stand there
stands_not : (k : Link) (ls : List Link) → all (earlier k) ls ≡ true → stands ls k ≡ false
stands_not k ls h =
    ⊎_elim (λ p. absurd (both_ways (earlier k k) (earlier_not_back k k (stands_later k k ls h p)) (stands_later k k ls h p))) (λ p. p) (cases_Bool (stands ls k))

stands_not_before : (k l : Link) (ls : List Link) → earlier k l ≡ true → rising (l ∷ ls) ≡ true → stands (l ∷ ls) k ≡ false
stands_not_before k l ls p h =
    let parts = and_parts (all (earlier l) ls) (rising ls) h in
    or_from _ _ (earlier_not_same k l p) (stands_not k ls (all_later k l ls p parts.0))

-- two rising lists in which the same links stand are one list
pub one_list : (ks ls : List Link) → rising ks ≡ true → rising ls ≡ true → ((l : Link) → stands ks l ≡ stands ls l) → ks ≡ ls
one_list [] [] g h same = refl
one_list [] (l ∷ ls) g h same = absurd (false≢true (same l ∙ or_left _ _ (same_link_itself l)))
one_list (k ∷ ks) [] g h same = absurd (false≢true (sym (same k) ∙ or_left _ _ (same_link_itself k)))
one_list (k ∷ ks) (l ∷ ls) g h same =
    let gs = and_parts (all (earlier k) ks) (rising ks) g in
    let hs = and_parts (all (earlier l) ls) (rising ls) h in
    let tails : k ≡ l → (x : Link) → stands ks x ≡ stands ls x = λ e x. rest e x (cases_Bool (same_link x k)) in
    ⊎_elim
    (λ p. absurd (both_ways (stands (l ∷ ls) k) (stands_not_before k l ls p h) (sym (same k) ∙ or_left _ _ (same_link_itself k))))
    (λ p. ⊎_elim
    (λ q. let e = same_link_is k l q in ap₂ (λ (x : Link) (xs : List Link). x ∷ xs) e (one_list ks ls gs.1 hs.1 (tails e)))
    (λ q. absurd (both_ways (stands (k ∷ ks) l) (stands_not_before l k ks (not_earlier k l p q) g) (same l ∙ or_left _ _ (same_link_itself l))))
    (cases_Bool (same_link k l)))
    (cases_Bool (earlier k l))
  where
    drop_left : (a b : Bool) → a ≡ false → (a || b) ≡ b
    drop_left a b e = rw e

    rest : k ≡ l → (x : Link) → (same_link x k ≡ true) ⊎ (same_link x k ≡ false) → stands ks x ≡ stands ls x
    rest e x (inl p) =
        let at : x ≡ k = same_link_is x k p in
        let left : stands ks x ≡ false = rw at (stands_not k ks (and_parts (all (earlier k) ks) (rising ks) g).0) in
        let right : stands ls x ≡ false = rw (at ∙ e) (stands_not l ls (and_parts (all (earlier l) ls) (rising ls) h).0) in
        left ∙ sym right
    rest e x (inr p) =
        let q : same_link x l ≡ false = rw (sym e) p in
        sym (drop_left (same_link x k) (stands ks x) p) ∙ same x ∙ drop_left (same_link x l) (stands ls x) q

or_swap : (a b c : Bool) → (a || (b || c)) ≡ (b || (a || c))
or_swap true true c = refl
or_swap true false c = refl
or_swap false true c = refl
or_swap false false c = refl

-- `put` adds the link, and keeps the list rising
pub stands_put : (l k : Link) (ls : List Link) → stands (put l ls) k ≡ (same_link k l || stands ls k)
stands_put l k [] = refl
stands_put l k (j ∷ js) =
    ⊎_elim (λ p. rw p refl) (λ p. ⊎_elim (λ q. at q p) (λ q. past (stands_put l k js) q p) (cases_Bool (same_link l j))) (cases_Bool (earlier l j))
  where
    at : same_link l j ≡ true → earlier l j ≡ false → stands (put l (j ∷ js)) k ≡ (same_link k l || (same_link k j || stands js k))
    at q p = let e : l ≡ j = same_link_is l j q in rw (p, q) (grind (arith, nat_tests, ap (same_link k) e))

    past : stands (put l js) k ≡ (same_link k l || stands js k) → same_link l j ≡ false → earlier l j ≡ false → stands (put l (j ∷ js)) k ≡ (same_link k l || (same_link k j || stands js k))
    past ih q p = rw (p, q) (ap (λ b. same_link k j || b) ih ∙ or_swap (same_link k j) (same_link k l) (stands js k))

pub all_put : (test : Link → Bool) (l : Link) (ls : List Link) → test l ≡ true → all test ls ≡ true → all test (put l ls) ≡ true
all_put test l [] p h = and_from _ _ p refl
all_put test l (j ∷ js) p h =
    let parts = and_parts (test j) (all test js) h in
    let ih = all_put test l js p parts.1 in
    let P : List Link → Type 0 = λ x. all test x ≡ true in
    cond_both (earlier l j) (l ∷ (j ∷ js)) (cond (same_link l j) (j ∷ js) (j ∷ put l js)) P
    (λ _. and_from _ _ p h)
    (λ _. cond_both (same_link l j) (j ∷ js) (j ∷ put l js) P (λ _. h) (λ _. and_from _ _ parts.0 ih))

pub rising_put : (l : Link) (ls : List Link) → rising ls ≡ true → rising (put l ls) ≡ true
rising_put l [] h = refl
rising_put l (j ∷ js) h =
    let parts = and_parts (all (earlier j) js) (rising js) h in
    let ih = rising_put l js parts.1 in
    let P : List Link → Type 0 = λ x. rising x ≡ true in
    cond_both (earlier l j) (l ∷ (j ∷ js)) (cond (same_link l j) (j ∷ js) (j ∷ put l js)) P
    (λ p. and_from _ _ (and_from _ _ p (all_later l j js p parts.0)) h)
    (λ p. cond_both (same_link l j) (j ∷ js) (j ∷ put l js) P (λ _. h) (λ q. and_from _ _ (all_put (earlier j) l js (not_earlier l j p q) parts.0) ih))

-- `taken_out` takes the link out, and keeps the list rising
pub all_kept : (test keep : Link → Bool) (ls : List Link) → all test ls ≡ true → all test (filter keep ls) ≡ true
all_kept test keep [] h = refl
all_kept test keep (j ∷ js) h =
    let parts = and_parts (test j) (all test js) h in
    let ih = all_kept test keep js parts.1 in
    let P : List Link → Type 0 = λ x. all test x ≡ true in
    cond_both (keep j) (j ∷ filter keep js) (filter keep js) P (λ _. and_from _ _ parts.0 ih) (λ _. ih)

pub rising_kept : (keep : Link → Bool) (ls : List Link) → rising ls ≡ true → rising (filter keep ls) ≡ true
rising_kept keep [] h = refl
rising_kept keep (j ∷ js) h =
    let parts = and_parts (all (earlier j) js) (rising js) h in
    let ih = rising_kept keep js parts.1 in
    let P : List Link → Type 0 = λ x. rising x ≡ true in
    cond_both (keep j) (j ∷ filter keep js) (filter keep js) P (λ _. and_from _ _ (all_kept (earlier j) keep js parts.0) ih) (λ _. ih)

pub rising_taken_out : (l : Link) (ls : List Link) → rising ls ≡ true → rising (taken_out l ls) ≡ true
rising_taken_out l ls h = rising_kept (λ k. not (same_link l k)) ls h

pub stands_taken_out : (l k : Link) (ls : List Link) → stands (taken_out l ls) k ≡ (not (same_link l k) && stands ls k)
stands_taken_out l k [] = grind (arith, nat_tests)
stands_taken_out l k (j ∷ js) = step (stands_taken_out l k js) (cases_Bool (same_link l j))
  where
    step : stands (taken_out l js) k ≡ (not (same_link l k) && stands js k) → (same_link l j ≡ true) ⊎ (same_link l j ≡ false) → stands (taken_out l (j ∷ js)) k ≡ (not (same_link l k) && stands (j ∷ js) k)
    step ih (inl p) = let e : l ≡ j = same_link_is l j p in rw p (ih ∙ grind (arith, nat_tests, ap (λ x. same_link x k) e, ap (same_link k) e))
    step ih (inr p) = rw p (ap (λ b. same_link k j || b) ih ∙ grind (arith, nat_tests))

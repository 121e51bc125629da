-- The test `joined` says of any two trios whether a chain joins them.
use Rattle.std.proofs.Common.{◌≡◌, true, ◌&&◌, ◌||◌, ◌⊎◌, List, [], ◌∷◌, sym, refl, ap, ◌∙◌, subst, inl, inr, ⊎_elim}
use Rattle.std.proofs.lemmas.Bool.{or_cases, or_left, or_right, and_parts, and_from, both_ways, cases_Bool, eqb-true, eq-eqb, false≢true}
use Rattle.sets.specs.Lists.{any}
use Rattle.network.specs.Chains.{Chain, none, more, ChainsAgree, Edge, ends_at, joined, same_trio}
use Rattle.network.specs.declared.Trio.{Trio}
use Rattle.network.specs.declared.Trio.TheVariants.{Voter, Module}

pub same_itself : (t : Trio) → same_trio t t ≡ true
same_itself (Voter v) = eq-eqb v v refl
same_itself (Module m) = eq-eqb m m refl

pub same_is : (t u : Trio) → same_trio t u ≡ true → t ≡ u
same_is (Voter v) (Voter w) h = ap Voter (eqb-true v w h)
same_is (Voter v) (Module m) h = absurd (false≢true h)
same_is (Module m) (Voter v) h = absurd (false≢true h)
same_is (Module m) (Module k) h = ap Module (eqb-true m k h)

-- a chain over one edge more goes without it, or through it one way or the other
abbrev pub Through : Edge → List Edge → Trio → Trio → Type 0
Through e es t u = ((joined es t e.0 ≡ true) × (joined es e.1 u ≡ true)) ⊎ ((joined es t e.1 ≡ true) × (joined es e.0 u ≡ true))

pub split : (e : Edge) (es : List Edge) (t u : Trio) → joined (e ∷ es) t u ≡ true → (joined es t u ≡ true) ⊎ Through e es t u
unfolding joined
split e es t u h =
    ⊎_elim inl (λ k. inr (⊎_elim (λ p. inl (and_parts _ _ p)) (λ q. inr (and_parts _ _ q)) (or_cases _ _ k))) (or_cases _ _ h)

pub around : (e : Edge) (es : List Edge) (t u : Trio) → joined es t u ≡ true → joined (e ∷ es) t u ≡ true
unfolding joined
around e es t u h = or_left _ _ h

pub through : (e : Edge) (es : List Edge) (t u : Trio) → Through e es t u → joined (e ∷ es) t u ≡ true
unfolding joined
through e es t u k =
    let fore = joined es t e.0 && joined es e.1 u in
    let back = joined es t e.1 && joined es e.0 u in
    let either : (fore || back) ≡ true =
    ⊎_elim (λ p. or_left fore back (and_from _ _ p.0 p.1)) (λ p. or_right fore back (and_from _ _ p.0 p.1)) k in
    or_right (joined es t u) (fore || back) either

pub joined_itself : (es : List Edge) (t : Trio) → joined es t t ≡ true
unfolding joined
joined_itself [] t = same_itself t
joined_itself (e ∷ es) t = around e es t t (joined_itself es t)

pub joined_back : (es : List Edge) (t u : Trio) → joined es t u ≡ true → joined es u t ≡ true
unfolding joined
joined_back [] t u h = let P : Trio → Type 0 = λ x. same_trio x t ≡ true in subst P (same_is t u h) (same_itself t)
joined_back (e ∷ es) t u h =
    ⊎_elim
    (λ p. around e es u t (joined_back es t u p))
    (λ k. through e es u t (⊎_elim (λ p. inr (joined_back es _ _ p.1, joined_back es _ _ p.0)) (λ p. inl (joined_back es _ _ p.1, joined_back es _ _ p.0)) k))
    (split e es t u h)

-- so it makes no difference which end is named first
pub joined_both : (es : List Edge) (t u : Trio) → joined es t u ≡ joined es u t
joined_both es t u =
    ⊎_elim
    (λ h. h ∙ sym (joined_back es t u h))
    (λ h. h ∙ sym (⊎_elim (λ k. absurd (both_ways (joined es t u) h (joined_back es u t k))) (λ k. k) (cases_Bool (joined es u t))))
    (cases_Bool (joined es t u))

pub joined_on : (es : List Edge) (t u w : Trio) → joined es t u ≡ true → joined es u w ≡ true → joined es t w ≡ true
unfolding joined
joined_on [] t u w h k = let P : Trio → Type 0 = λ x. same_trio x w ≡ true in subst P (sym (same_is t u h)) k
joined_on (e ∷ es) t u w h k =
    let on : (a b c : Trio) → joined es a b ≡ true → joined es b c ≡ true → joined es a c ≡ true = joined_on es in
    let back = joined_back es in
    ⊎_elim
    (λ p. ⊎_elim
    (λ q. around e es t w (on t u w p q))
    (λ q. through e es t w (⊎_elim (λ r. inl (on _ _ _ p r.0, r.1)) (λ r. inr (on _ _ _ p r.0, r.1)) q))
    (split e es u w k))
    (λ p. ⊎_elim
    (λ q. through e es t w (⊎_elim (λ r. inl (r.0, on _ _ _ r.1 q)) (λ r. inr (r.0, on _ _ _ r.1 q)) p))
    (λ q. ⊎_elim
    (λ r. ⊎_elim (λ s. through e es t w (inl (r.0, s.1))) (λ s. around e es t w (on _ _ _ r.0 s.1)) q)
    (λ r. ⊎_elim (λ s. around e es t w (on _ _ _ r.0 s.1)) (λ s. through e es t w (inr (r.0, s.1))) q)
    p)
    (split e es u w k))
    (split e es t u h)

pub joined_beside : (es : List Edge) (t u : Trio) → any (ends_at t u) es ≡ true → joined es t u ≡ true
unfolding joined
joined_beside [] t u h = absurd (false≢true h)
joined_beside (e ∷ es) t u h =
    ⊎_elim
    (λ p. ⊎_elim (λ q. at (and_parts _ _ q)) (λ q. back (and_parts _ _ q)) (or_cases _ _ p))
    (λ p. around e es t u (joined_beside es t u p))
    (or_cases _ _ h)
  where
    at : (same_trio e.0 t ≡ true) × (same_trio e.1 u ≡ true) → joined (e ∷ es) t u ≡ true
    at p =
        let a = same_is e.0 t p.0 in
        let b = same_is e.1 u p.1 in
        through e es t u (inl (rw a (joined_itself es t), rw b (joined_itself es u)))

    back : (same_trio e.0 u ≡ true) × (same_trio e.1 t ≡ true) → joined (e ∷ es) t u ≡ true
    back p =
        let a = same_is e.0 u p.0 in
        let b = same_is e.1 t p.1 in
        through e es t u (inr (rw b (joined_itself es t), rw a (joined_itself es u)))

pub joined_from_chain : (es : List Edge) (t u : Trio) → Chain es t u → joined es t u ≡ true
joined_from_chain es t u (none) = joined_itself es t
joined_from_chain es t u (more {u = w} b c) = joined_on es t w u (joined_beside es t w b) (joined_from_chain es w u c)

pub chain_wider : (e : Edge) (es : List Edge) (t u : Trio) → Chain es t u → Chain (e ∷ es) t u
chain_wider e es t u (none) = none
chain_wider e es t u (more {u = w} b c) = more (or_right _ _ b) (chain_wider e es w u c)

pub chain_on : (es : List Edge) (t u w : Trio) → Chain es t u → Chain es u w → Chain es t w
chain_on es t u w (none) d = d
chain_on es t u w (more {u = x} b c) d = more b (chain_on es x u w c d)

pub chain_from_joined : (es : List Edge) (t u : Trio) → joined es t u ≡ true → Chain es t u
unfolding joined
chain_from_joined [] t u h = let P : Trio → Type 0 = λ x. Chain [] t x in subst P (same_is t u h) none
chain_from_joined (e ∷ es) t u h =
    let wide : (a b : Trio) → joined es a b ≡ true → Chain (e ∷ es) a b = λ a b k. chain_wider e es a b (chain_from_joined es a b k) in
    let there : any (ends_at e.0 e.1) (e ∷ es) ≡ true =
    or_left _ _ (or_left _ _ (and_from _ _ (same_itself e.0) (same_itself e.1))) in
    let back : any (ends_at e.1 e.0) (e ∷ es) ≡ true =
    or_left _ _ (or_right _ _ (and_from _ _ (same_itself e.0) (same_itself e.1))) in
    ⊎_elim
    (wide t u)
    (⊎_elim
    (λ p. chain_on (e ∷ es) _ _ _ (wide _ _ p.0) (more there (wide _ _ p.1)))
    (λ p. chain_on (e ∷ es) _ _ _ (wide _ _ p.0) (more back (wide _ _ p.1))))
    (split e es t u h)

pub chains_agree : ChainsAgree
chains_agree es t u = (joined_from_chain es t u, chain_from_joined es t u)

-- From checks to answers: which refusal is due, and what a call answers and leaves then.
use Rattle.std.proofs.Common.{◌≡◌, ℕ, true, false, List, [], ◌∷◌, Some, None, Ok, Err, Option, Result, sym, ap, ◌∙◌, ⊎_elim, arith}
use Rattle.std.proofs.lemmas.Bool.{cases_Bool, cond-false, cond-true}
use Rattle.network.specs.Changes.{Change, changed, network_after, refusal, unless}
use Rattle.network.specs.Networks.{Network}
use Rattle.refusals.specs.Refusals.{Check, answered, first_due}
use Rattle.refusals.specs.declared.Refusal.{Refusal}

pub hit : (k : Check) (ks : List Check) → k.0 ≡ true → first_due (k ∷ ks) ≡ Some k.1
hit k ks h = cond-true k.0 (Some k.1) (first_due ks) h

pub miss : (k : Check) (ks : List Check) → k.0 ≡ false → first_due (k ∷ ks) ≡ first_due ks
miss k ks h = cond-false k.0 (Some k.1) (first_due ks) h

module _ {X : Type 0} where
  -- one check alone: it was passed where the answer is a value
  pub passed : (k : Check) (x y : X) → Ok y ≡ answered (first_due (k ∷ [])) x → k.0 ≡ false
  passed k x y h = ⊎_elim (λ p. absurd (never (h ∙ ap (λ (o : Option Refusal). answered o x) (hit k [] p)))) (λ p. p) (cases_Bool k.0)
    where
      never : ◌≡◌ {A = Result X Refusal} (Ok y) (Err k.1) → ⊥
      never q = let z : ◌≡◌ {A = ℕ} 0 1 = cc in omega arith

  -- and failed where the answer is a refusal
  pub stopped : (k : Check) (x : X) (e : Refusal) → Err e ≡ answered (first_due (k ∷ [])) x → (k.0 ≡ true) × (e ≡ k.1)
  stopped k x e h = ⊎_elim (λ p. (p, same (h ∙ ap (λ (o : Option Refusal). answered o x) (hit k [] p)))) (λ p. absurd (never (h ∙ ap (λ (o : Option Refusal). answered o x) (miss k [] p)))) (cases_Bool k.0)
    where
      same : ◌≡◌ {A = Result X Refusal} (Err e) (Err k.1) → e ≡ k.1
      same q = cc

      never : ◌≡◌ {A = Result X Refusal} (Err e) (Ok x) → ⊥
      never q = let z : ◌≡◌ {A = ℕ} 0 1 = cc in omega arith

  -- two checks: both were passed where the answer is a value
  pub both_passed : (j k : Check) (x y : X) → Ok y ≡ answered (first_due (j ∷ (k ∷ []))) x → (j.0 ≡ false) × (k.0 ≡ false) × (y ≡ x)
  both_passed j k x y h = ⊎_elim (λ p. absurd (never j.1 (h ∙ told (hit j (k ∷ []) p)))) (λ p. first p) (cases_Bool j.0)
    where
      told : {due : Option Refusal} → first_due (j ∷ (k ∷ [])) ≡ due → answered (first_due (j ∷ (k ∷ []))) x ≡ answered due x
      told is = ap (λ (o : Option Refusal). answered o x) is

      never : (e : Refusal) → ◌≡◌ {A = Result X Refusal} (Ok y) (Err e) → ⊥
      never e q = let z : ◌≡◌ {A = ℕ} 0 1 = cc in omega arith

      same : ◌≡◌ {A = Result X Refusal} (Ok y) (Ok x) → y ≡ x
      same q = cc

      first : j.0 ≡ false → (j.0 ≡ false) × (k.0 ≡ false) × (y ≡ x)
      first p = ⊎_elim (λ q. absurd (never k.1 (h ∙ told (miss j (k ∷ []) p ∙ hit k [] q)))) (λ q. (p, q, same (h ∙ told (miss j (k ∷ []) p ∙ miss k [] q)))) (cases_Bool k.0)

  -- and where it is a refusal, that refusal is due whatever is checked after them
  pub one_stopped : (j k : Check) (x : X) (e : Refusal) (ks : List Check) → Err e ≡ answered (first_due (j ∷ (k ∷ []))) x → first_due (j ∷ (k ∷ ks)) ≡ Some e
  one_stopped j k x e ks h = ⊎_elim (λ p. hit j (k ∷ ks) p ∙ ap Some (sym (same j.1 (h ∙ told (hit j (k ∷ []) p))))) (λ p. miss j (k ∷ ks) p ∙ second p) (cases_Bool j.0)
    where
      told : {due : Option Refusal} → first_due (j ∷ (k ∷ [])) ≡ due → answered (first_due (j ∷ (k ∷ []))) x ≡ answered due x
      told is = ap (λ (o : Option Refusal). answered o x) is

      same : (f : Refusal) → ◌≡◌ {A = Result X Refusal} (Err e) (Err f) → e ≡ f
      same f q = cc

      never : ◌≡◌ {A = Result X Refusal} (Err e) (Ok x) → ⊥
      never q = let z : ◌≡◌ {A = ℕ} 0 1 = cc in omega arith

      second : j.0 ≡ false → first_due (k ∷ ks) ≡ Some e
      second p = ⊎_elim (λ q. hit k ks q ∙ ap Some (sym (same k.1 (h ∙ told (miss j (k ∷ []) p ∙ hit k [] q))))) (λ q. absurd (never (h ∙ told (miss j (k ∷ []) p ∙ miss k [] q)))) (cases_Bool k.0)

  pub answers_refusal : (due : Option Refusal) (e : Refusal) (x : X) → due ≡ Some e → Err e ≡ answered due x
  answers_refusal due e x h = sym (ap (λ (o : Option Refusal). answered o x) h)

  pub answers_value : (due : Option Refusal) (x : X) → due ≡ None → Ok x ≡ answered due x
  answers_value due x h = sym (ap (λ (o : Option Refusal). answered o x) h)

  -- and what it leaves
  pub unless_refused : (due : Option Refusal) (e : Refusal) (done kept : X) → due ≡ Some e → kept ≡ unless due done kept
  unless_refused due e done kept h = sym (ap (λ (o : Option Refusal). unless o done kept) h)

  pub unless_free : (due : Option Refusal) (done kept : X) → due ≡ None → done ≡ unless due done kept
  unless_free due done kept h = sym (ap (λ (o : Option Refusal). unless o done kept) h)

pub after_refusal : (change : Change) (n : Network) (e : Refusal) → refusal change n ≡ Some e → n ≡ network_after change n
unfolding network_after
after_refusal change n e h = unless_refused (refusal change n) e (changed change n) n h

pub after_change : (change : Change) (n : Network) → refusal change n ≡ None → changed change n ≡ network_after change n
unfolding network_after
after_change change n h = unless_free (refusal change n) (changed change n) n h

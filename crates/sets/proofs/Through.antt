-- What is known while the members of a set are gone through.
use Rattle.std.proofs.Common.{◌≡◌, ℕ, ◌<◌, Bool, true, false, ◌&&◌, ◌||◌, eqb, List, [], ◌∷◌, ◌++◌, sym, refl, ap, ◌∙◌, append_assoc, append-nil, arith}
use Rattle.std.specs.List.{range_with_len}
use Rattle.std.proofs.lemmas.Bool.{and_parts, eq-eqb, eqb-true}
use Rattle.sets.specs.Lists.{any}
use Rattle.sets.specs.Sets.{member, members}
use Rattle.sets.specs.declared.TrioSet.{TrioSet}
use Rattle.sets.proofs.Kept.{any_append, any_below_true, any_kept}

-- what comes after the numbers gone begins with a member
pub next_member : (s : TrioSet) (gone : List ℕ) {before after : List ℕ} {v : ℕ} → before ≡ v ∷ after → gone ++ before ≡ members s → (v < 16) × (member s v ≡ true)
unfolding members
next_member s gone {before} {after} {v} next is =
    let there : any (eqb v) (members s) ≡ true =
    ap (any (eqb v)) (sym is ∙ ap (λ l. gone ++ l) next) ∙ any_append (eqb v) gone (v ∷ after) ∙ ap (λ b. any (eqb v) gone || (b || any (eqb v) after)) (eq-eqb v v refl) ∙ or_true (any (eqb v) gone) in
    let k = any_below_true (λ x. member s x && eqb v x) 16 (sym (any_kept (eqb v) (member s) (range_with_len 0 16)) ∙ there) in
    let both = and_parts (member s k.0) (eqb v k.0) k.2 in
    let e : v ≡ k.0 = eqb-true v k.0 both.1 in
    (omega arith, ap (member s) e ∙ both.0)
  where
    or_true : (b : Bool) → (b || true) ≡ true
    or_true true = refl
    or_true false = refl

-- it goes to those gone, and all stay what they were
pub gone_through : (s : TrioSet) (gone : List ℕ) {before after : List ℕ} {v : ℕ} → before ≡ v ∷ after → gone ++ before ≡ members s → (gone ++ v ∷ []) ++ after ≡ members s
gone_through s gone {before} {after} {v} next is = append_assoc gone (v ∷ []) after ∙ ap (λ l. gone ++ l) (sym next) ∙ is

-- where nothing comes any more, all members are gone through
pub all_gone : (s : TrioSet) (gone : List ℕ) {before : List ℕ} → before ≡ [] → gone ++ before ≡ members s → gone ≡ members s
all_gone s gone {before} end is = sym (append-nil gone) ∙ ap (λ l. gone ++ l) (sym end) ∙ is

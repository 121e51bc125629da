-- What the parts of a cabinet stand for after each call.
use Rattle.std.proofs.Common.{◌≡◌, ℕ, Bool, true, false, cond, not, ltb, List, [], ◌∷◌, ◌++◌, length, set, is_some, Some, None, Option, sym, refl, ap, ◌∙◌, subst, ⊎_elim}
use Rattle.std.specs.Option.{ok_or}
use Rattle.std.proofs.lemmas.List.{set_past}
use Rattle.std.proofs.lemmas.Bool.{cases_Bool, cond-false, cond-true, le-leb, lt-leb, ltb-false, ltb-true}
use Rattle.network.specs.Changes.{Change, absent, add_voter, add_module, change_part, changed, network_after, refusal}
use Rattle.network.specs.Limits.{within_limits}
use Rattle.network.specs.Networks.{Network}
use Rattle.refusals.specs.Refusals.{answered}
use Rattle.refusals.specs.declared.Refusal.{Refusal}
use Rattle.refusals.specs.declared.Refusal.TheVariants.{VotersFull, ModulesFull, NoVoter, NoModule}
use Rattle.network.specs.declared.Trio.TheVariants.{Voter, Module}
use Rattle.network.proofs.Dues.{after_change, after_refusal, answers_refusal, answers_value, hit, miss}
use Rattle.network.proofs.Keeps.{limits_kept}
use Rattle.wiring.specs.Tables.{codes}
use Rattle.wiring.specs.Wires.{link_list}
use Rattle.wiring.specs.declared.links.Links.{Links}
use Rattle.wiring.specs.declared.table.TrioTable.{TrioTable}
use Rattle.cabinet.specs.Parts.{network_of}

-- what stands for the network after a call is within the limits
pub still_within : (change : Change) (n o : Network) → within_limits n ≡ true → o ≡ network_after change n → within_limits o ≡ true
still_within change n o h is = let P : Network → Type 0 = λ x. within_limits x ≡ true in subst P (sym is) (limits_kept change n h)

-- a call that is refused without room, and then leaves all as it was
by_room : (change : Change) (n o : Network) (e : Refusal) (room : Bool) → (room ≡ true → (refusal change n ≡ None) × (o ≡ changed change n)) → (room ≡ false → (refusal change n ≡ Some e) × (o ≡ n)) → o ≡ network_after change n
by_room change n o e room grown full =
    ⊎_elim (λ h. let g = grown h in g.1 ∙ after_change change n g.0) (λ h. let f = full h in f.1 ∙ after_refusal change n e f.0) (cases_Bool room)

-- what is answered for a value that is there only where there is room
pub answers_room : {X : Type 0} (room : Bool) (due : Option Refusal) (e : Refusal) (x : X) → (room ≡ true → due ≡ None) → (room ≡ false → due ≡ Some e) → ok_or (cond room (Some x) None) e ≡ answered due x
answers_room true due e x free full = answers_value due x (free refl)
answers_room false due e x free full = answers_refusal due e x (full refl)

pub some_if : {X : Type 0} (room : Bool) (x : X) → is_some (cond room (Some x) None) ≡ room
some_if true x = refl
some_if false x = refl

abbrev with_voters : List ℕ → Network → Network
with_voters cs n = record { voters = cs; modules = n.modules; links = n.links }

abbrev with_modules : List ℕ → Network → Network
with_modules cs n = record { voters = n.voters; modules = cs; links = n.links }

module _ (vs : TrioTable 16) (ms : TrioTable 15) (ls : Links) (code : ℕ) where
  abbrev n : Network
  n = network_of vs ms ls

  pub full_voters : ltb (length (codes vs)) 16 ≡ false → refusal (add_voter code) n ≡ Some VotersFull
  unfolding refusal
  full_voters h = hit _ [] (le-leb 16 (length (codes vs)) (ltb-false _ 16 h))

  pub free_voter : ltb (length (codes vs)) 16 ≡ true → refusal (add_voter code) n ≡ None
  unfolding refusal
  free_voter h = miss _ [] (lt-leb 16 (length (codes vs)) (ltb-true _ 16 h))

  pub added_voter : (us : TrioTable 16) (room : Bool) → room ≡ ltb (length (codes vs)) 16 → codes us ≡ cond room (codes vs ++ (code ∷ [])) (codes vs) → network_of us ms ls ≡ network_after (add_voter code) n
  added_voter us room is now =
      by_room (add_voter code) n (network_of us ms ls) VotersFull room
      (λ h. (free_voter (sym is ∙ h), ap (λ cs. with_voters cs n) (now ∙ cond-true room _ _ h)))
      (λ h. (full_voters (sym is ∙ h), ap (λ cs. with_voters cs n) (now ∙ cond-false room _ _ h)))

  pub full_modules : ltb (length (codes ms)) 15 ≡ false → refusal (add_module code) n ≡ Some ModulesFull
  unfolding refusal
  full_modules h = hit _ [] (le-leb 15 (length (codes ms)) (ltb-false _ 15 h))

  pub free_module : ltb (length (codes ms)) 15 ≡ true → refusal (add_module code) n ≡ None
  unfolding refusal
  free_module h = miss _ [] (lt-leb 15 (length (codes ms)) (ltb-true _ 15 h))

  pub added_module : (us : TrioTable 15) (room : Bool) → room ≡ ltb (length (codes ms)) 15 → codes us ≡ cond room (codes ms ++ (code ∷ [])) (codes ms) → network_of vs us ls ≡ network_after (add_module code) n
  added_module us room is now =
      by_room (add_module code) n (network_of vs us ls) ModulesFull room
      (λ h. (free_module (sym is ∙ h), ap (λ cs. with_modules cs n) (now ∙ cond-true room _ _ h)))
      (λ h. (full_modules (sym is ∙ h), ap (λ cs. with_modules cs n) (now ∙ cond-false room _ _ h)))

-- no trio and no link
pub empty_within : (vs : TrioTable 16) (ms : TrioTable 15) (ls : Links) → codes vs ≡ [] → codes ms ≡ [] → link_list ls ≡ [] → within_limits (network_of vs ms ls) ≡ true
unfolding within_limits
empty_within vs ms ls v m l = rw (v, m, l) refl

-- another code for one trio, where it is there
module _ (vs : TrioTable 16) (ms : TrioTable 15) (ls : Links) (i code : ℕ) where
  pub voter_there : ltb i (length (codes vs)) ≡ true → refusal (change_part (Voter i) code) (network_of vs ms ls) ≡ None
  unfolding refusal
  voter_there h = miss (absent (Voter i) (network_of vs ms ls)) [] (ap not h)

  pub voter_absent : ltb i (length (codes vs)) ≡ false → refusal (change_part (Voter i) code) (network_of vs ms ls) ≡ Some NoVoter
  unfolding refusal
  voter_absent h = hit (absent (Voter i) (network_of vs ms ls)) [] (ap not h)

  pub relabelled_voter : (us : TrioTable 16) → codes us ≡ set (codes vs) i code → network_of us ms ls ≡ network_after (change_part (Voter i) code) (network_of vs ms ls)
  relabelled_voter us now =
      by_room (change_part (Voter i) code) (network_of vs ms ls) (network_of us ms ls) NoVoter (ltb i (length (codes vs)))
      (λ h. (voter_there h, ap (λ cs. with_voters cs (network_of vs ms ls)) now))
      (λ h. (voter_absent h, ap (λ cs. with_voters cs (network_of vs ms ls)) (now ∙ set_past (codes vs) i code (ltb-false i _ h))))

  pub module_there : ltb i (length (codes ms)) ≡ true → refusal (change_part (Module i) code) (network_of vs ms ls) ≡ None
  unfolding refusal
  module_there h = miss (absent (Module i) (network_of vs ms ls)) [] (ap not h)

  pub module_absent : ltb i (length (codes ms)) ≡ false → refusal (change_part (Module i) code) (network_of vs ms ls) ≡ Some NoModule
  unfolding refusal
  module_absent h = hit (absent (Module i) (network_of vs ms ls)) [] (ap not h)

  pub relabelled_module : (us : TrioTable 15) → codes us ≡ set (codes ms) i code → network_of vs us ls ≡ network_after (change_part (Module i) code) (network_of vs ms ls)
  relabelled_module us now =
      by_room (change_part (Module i) code) (network_of vs ms ls) (network_of vs us ls) NoModule (ltb i (length (codes ms)))
      (λ h. (module_there h, ap (λ cs. with_modules cs (network_of vs ms ls)) now))
      (λ h. (module_absent h, ap (λ cs. with_modules cs (network_of vs ms ls)) (now ∙ set_past (codes ms) i code (ltb-false i _ h))))

-- A set of trios that grows no more along the links, and holds only what chains join to its start, is the cell.
use Rattle.std.proofs.Common.{◌≡◌, ℕ, ◌+◌, ◌^◌, ◌<◌, ◌≤◌, Bool, true, false, ◌&&◌, ◌||◌, eqb, length, sym, refl, ap, ap₂, ◌∙◌, subst, inl, inr, ⊎_elim, arith}
use Rattle.std.proofs.lemmas.Bool.{and_from, and_parts, both_ways, cases_Bool, cases_lt, eq-eqb, eqb-true, false≢true, lt-ltb, or_cases, or_left, or_right}
use Rattle.network.specs.Chains.{Chain, none, more, ends_at, joined, same_trio}
use Rattle.network.specs.declared.Trio.{Trio}
use Rattle.network.specs.declared.Trio.TheVariants.{Voter, Module}
use Rattle.network.proofs.Chains.{chain_from_joined, joined_beside, joined_itself, joined_on, same_is, same_itself}
use Rattle.network.proofs.Inside.{link_step, step_link}
use Rattle.sets.specs.Lists.{any}
use Rattle.sets.specs.Sets.{member, members}
use Rattle.sets.specs.declared.TrioSet.{TrioSet}
use Rattle.sets.proofs.Kept.{any_below_from, any_below_true}
use Rattle.sets.proofs.Members.{full_subset, len_bound, member_below, set_same, subset_len}
use Rattle.wiring.specs.CellSets.{holds, in_range}
use Rattle.wiring.specs.Wires.{edge_list, fed_by_some, feeds, feeds_some, link_list}
use Rattle.wiring.specs.declared.cell.Cell.{Cell}
use Rattle.wiring.specs.declared.links.Links.{Links}
use Rattle.wiring.proofs.Rows.{feeds_range, stands_list}

-- next is cell with the modules that its voters feed and the voters that feed one of these
pub record Grows (ls : Links) (cell next : Cell) : Type 0 where
  pub modules : (m : ℕ) → member next.modules m ≡ (member cell.modules m || fed_by_some ls cell.voters m)
  pub voters : (v : ℕ) → member next.voters v ≡ (member cell.voters v || feeds_some ls next.modules v)

-- only what a chain joins to t
abbrev pub Sound : Links → Trio → Cell → Type 0
Sound ls t cell = (u : Trio) → holds cell u ≡ true → joined (edge_list ls) t u ≡ true

-- t itself, if it is in range
abbrev pub Started : Trio → Cell → Type 0
Started t cell = in_range t ≡ true → holds cell t ≡ true

-- t and no other, if it is in range
abbrev pub Only : Trio → Cell → Type 0
Only t cell = (u : Trio) → holds cell u ≡ (in_range u && same_trio t u)

abbrev pub size : Cell → ℕ
size cell = length (members cell.voters) + length (members cell.modules)

-- its sets are words of 16 bits
abbrev pub Fits : Cell → Type 0
Fits cell = (cell.voters.bits < 2 ^ 16) × (cell.modules.bits < 2 ^ 16)

-- the test that the code makes
abbrev pub same_word : TrioSet → TrioSet → Bool
same_word s t = eqb s.bits t.bits

again : (a b : Bool) → (a || b) ≡ ((a || b) || b)
again true b = refl
again false true = refl
again false false = refl

both_same : (a b : Bool) → (a ≡ true → b ≡ true) → (b ≡ true → a ≡ true) → a ≡ b
both_same true b f g = sym (f refl)
both_same false true f g = absurd (false≢true (g refl))
both_same false false f g = refl

-- feeding is a step both ways
step_down : (ls : Links) (v m : ℕ) → feeds ls v m ≡ true → joined (edge_list ls) (Voter v) (Module m) ≡ true
step_down ls v m h = joined_beside (edge_list ls) (Voter v) (Module m) (link_step (link_list ls) (v, m) (Voter v) (Module m) (stands_list ls (v, m) ∙ h) (inl (refl, refl)))

step_up : (ls : Links) (v m : ℕ) → feeds ls v m ≡ true → joined (edge_list ls) (Module m) (Voter v) ≡ true
step_up ls v m h = joined_beside (edge_list ls) (Module m) (Voter v) (link_step (link_list ls) (v, m) (Module m) (Voter v) (stands_list ls (v, m) ∙ h) (inr (refl, refl)))

module _ (ls : Links) (t : Trio) (cell next : Cell) (grows : Grows ls cell next) where
  sound_module : Sound ls t cell → (m : ℕ) → member next.modules m ≡ true → joined (edge_list ls) t (Module m) ≡ true
  unfolding fed_by_some
  sound_module sound m h =
      ⊎_elim
      (sound (Module m))
      (λ p. let k = any_below_true (λ v. member cell.voters v && feeds ls v m) 16 p in
      let both = and_parts (member cell.voters k.0) (feeds ls k.0 m) k.2 in
      joined_on (edge_list ls) t (Voter k.0) (Module m) (sound (Voter k.0) both.0) (step_down ls k.0 m both.1))
      (or_cases _ _ (sym (grows.modules m) ∙ h))

  sound_voter : Sound ls t cell → (v : ℕ) → member next.voters v ≡ true → joined (edge_list ls) t (Voter v) ≡ true
  unfolding feeds_some
  sound_voter sound v h =
      ⊎_elim
      (sound (Voter v))
      (λ p. let k = any_below_true (λ m. member next.modules m && feeds ls v m) 16 p in
      let both = and_parts (member next.modules k.0) (feeds ls v k.0) k.2 in
      joined_on (edge_list ls) t (Module k.0) (Voter v) (sound_module sound k.0 both.0) (step_up ls v k.0 both.1))
      (or_cases _ _ (sym (grows.voters v) ∙ h))

  pub grown_sound : Sound ls t cell → Sound ls t next
  grown_sound sound (Voter v) h = sound_voter sound v h
  grown_sound sound (Module m) h = sound_module sound m h

  more_voters : (v : ℕ) → member cell.voters v ≡ true → member next.voters v ≡ true
  more_voters v h = grows.voters v ∙ or_left _ _ h

  more_modules : (m : ℕ) → member cell.modules m ≡ true → member next.modules m ≡ true
  more_modules m h = grows.modules m ∙ or_left _ _ h

  pub grown_started : Started t cell → Started t next
  grown_started start h = on t (start h)
    where
      on : (u : Trio) → holds cell u ≡ true → holds next u ≡ true
      on (Voter v) k = more_voters v k
      on (Module m) k = more_modules m k

  pub grown_size : size cell ≤ size next
  grown_size = omega (arith, subset_len cell.voters next.voters more_voters, subset_len cell.modules next.modules more_modules)

  -- from here on the set has grown no more
  module _ (full : size next ≤ size cell) where
    back_voters : (v : ℕ) → member next.voters v ≡ true → member cell.voters v ≡ true
    back_voters = full_subset cell.voters next.voters more_voters (omega (arith, subset_len cell.modules next.modules more_modules))

    back_modules : (m : ℕ) → member next.modules m ≡ true → member cell.modules m ≡ true
    back_modules = full_subset cell.modules next.modules more_modules (omega (arith, subset_len cell.voters next.voters more_voters))

    closed_down : (v m : ℕ) → feeds ls v m ≡ true → member cell.voters v ≡ true → member cell.modules m ≡ true
    unfolding fed_by_some
    closed_down v m f h =
        back_modules m (grows.modules m ∙ or_right _ _ (any_below_from (λ w. member cell.voters w && feeds ls w m) 16 v (feeds_range ls v m f).0 (and_from _ _ h f)))

    closed_up : (v m : ℕ) → feeds ls v m ≡ true → member cell.modules m ≡ true → member cell.voters v ≡ true
    unfolding feeds_some
    closed_up v m f h =
        back_voters v (grows.voters v ∙ or_right _ _ (any_below_from (λ k. member next.modules k && feeds ls v k) 16 m (feeds_range ls v m f).1 (and_from _ _ (more_modules m h) f)))

    closed : (u w : Trio) → any (ends_at u w) (edge_list ls) ≡ true → holds cell u ≡ true → holds cell w ≡ true
    closed u w b h =
        let s = step_link (link_list ls) u w b in
        let f = sym (stands_list ls s.0) ∙ s.1 in
        let P : Trio → Type 0 = λ x. holds cell x ≡ true in
        ⊎_elim
        (λ e. subst P (sym e.1) (closed_down s.0.0 s.0.1 f (subst P e.0 h)))
        (λ e. subst P (sym e.1) (closed_up s.0.0 s.0.1 f (subst P e.0 h)))
        s.2

    along : (u w : Trio) → Chain (edge_list ls) u w → holds cell u ≡ true → holds cell w ≡ true
    along u w (none) h = h
    along u w (more {u = x} b c) h = along x w c (closed u x b h)

    -- an end of a link is in range
    step_range : (u w : Trio) → any (ends_at u w) (edge_list ls) ≡ true → in_range u ≡ true
    step_range u w b =
        let s = step_link (link_list ls) u w b in
        let r = feeds_range ls s.0.0 s.0.1 (sym (stands_list ls s.0) ∙ s.1) in
        let P : Trio → Type 0 = λ x. in_range x ≡ true in
        ⊎_elim (λ e. subst P (sym e.0) (lt-ltb s.0.0 16 r.0)) (λ e. subst P (sym e.0) (lt-ltb s.0.1 16 r.1)) s.2

    reached : Started t cell → (u : Trio) → in_range u ≡ true → Chain (edge_list ls) t u → holds cell u ≡ true
    reached start u r (none) = start r
    reached start u r (more {u = x} b c) = along t u (more b c) (start (step_range t x b))

    holds_range : (u : Trio) → holds cell u ≡ true → in_range u ≡ true
    holds_range (Voter v) h = lt-ltb v 16 (member_below cell.voters v h)
    holds_range (Module m) h = lt-ltb m 16 (member_below cell.modules m h)

    same_voters : (k : ℕ) → member next.voters k ≡ member cell.voters k
    same_voters k = both_same _ _ (back_voters k) (more_voters k)

    same_modules : (k : ℕ) → member next.modules k ≡ member cell.modules k
    same_modules k = both_same _ _ (back_modules k) (more_modules k)

    -- and it is the same set
    pub same_cell : Fits next → Fits cell → next ≡ cell
    same_cell hn hc =
        ap₂ (λ (vs ms : TrioSet). record { voters = vs; modules = ms })
        (set_same next.voters cell.voters hn.0 hc.0 same_voters) (set_same next.modules cell.modules hn.1 hc.1 same_modules)

    pub is_cell : Sound ls t cell → Started t cell → (u : Trio) → holds cell u ≡ (in_range u && joined (edge_list ls) t u)
    is_cell sound start u =
        ⊎_elim
        (λ h. h ∙ sym (and_from _ _ (holds_range u h) (sound u h)))
        (λ h. h ∙ sym (⊎_elim (λ p. let both = and_parts (in_range u) (joined (edge_list ls) t u) p in absurd (both_ways (holds cell u) h (reached start u both.0 (chain_from_joined (edge_list ls) t u both.1)))) (λ p. p) (cases_Bool (in_range u && joined (edge_list ls) t u))))
        (cases_Bool (holds cell u))

module _ (ls : Links) (t : Trio) (cell next : Cell) (grows : Grows ls cell next) where
  -- where no voter was added, growing once more adds nothing
  pub grown_still : same_word next.voters cell.voters ≡ true → Grows ls next next
  grown_still same =
      let voters : next.voters ≡ cell.voters = ap (λ (b : ℕ). record { bits = b }) (eqb-true _ _ same) in
      record {
        modules = λ m. grows.modules m ∙ again (member cell.modules m) (fed_by_some ls cell.voters m) ∙ sym (ap₂ ◌||◌ (grows.modules m) (ap (λ (s : TrioSet). fed_by_some ls s m) voters));
        voters = λ v. grows.voters v ∙ again (member cell.voters v) (feeds_some ls next.modules v) ∙ ap (λ b. b || feeds_some ls next.modules v) (sym (grows.voters v));
      }

  -- and else something was added
  pub grown_more : Fits next → Fits cell → same_word next.voters cell.voters ≡ false → size cell < size next
  grown_more hn hc other = elim (cases_lt (size cell) (size next)) [
    | inl grew ↦ grew
    | inr full ↦
        let same = same_cell ls t cell next grows full hn hc in
        absurd (both_ways (same_word next.voters cell.voters) other (eq-eqb _ _ (ap (λ (c : Cell). c.voters.bits) same)))
  ]

-- one trio alone
pub only_sound : (ls : Links) (t : Trio) (cell : Cell) → Only t cell → Sound ls t cell
only_sound ls t cell only u h =
    let both = and_parts (in_range u) (same_trio t u) (sym (only u) ∙ h) in
    let P : Trio → Type 0 = λ x. joined (edge_list ls) t x ≡ true in
    subst P (same_is t u both.1) (joined_itself (edge_list ls) t)

pub only_started : (t : Trio) (cell : Cell) → Only t cell → Started t cell
only_started t cell only h = only t ∙ and_from _ _ h (same_itself t)

pub size_bound : (cell : Cell) → size cell ≤ 32
size_bound cell = omega (arith, len_bound cell.voters, len_bound cell.modules)

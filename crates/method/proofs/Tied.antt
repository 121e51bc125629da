-- Faulty sources that chains tie together are all at one position: otherwise some place has faults at two.
use Rattle.std.proofs.Common.{◌≡◌, ℕ, Bool, true, false, cond, ◌||◌, eqb, ◌⊎◌, List, [], ◌∷◌, map, sym, refl, ap, ◌∙◌, subst, ap₂, inl, inr, ⊎_elim, arith}
use Rattle.std.specs.List.{AllByRecursion as All}
use Rattle.std.proofs.lemmas.Bool.{both_ways, cases_Bool, cond_both, eq-eqb, eqb-true, false≢true, or_cases, or_left, or_right, or_parts}
use Rattle.algebra.specs.Laws.{Kind, Laws}
use Rattle.algebra.specs.Sums.{product, sum}
use Rattle.algebra.proofs.Sums.{fold_empties, nothing_right, op_empty, products, sums}
use Rattle.network.specs.Cells.{edge}
use Rattle.network.specs.Chains.{Chain, none as stay, more}
use Rattle.network.specs.Networks.{Link, stands}
use Rattle.network.specs.Patterns.{Position, A, B, C, index, State, at, Weights}
use Rattle.network.specs.declared.Trio.{Trio}
use Rattle.network.specs.declared.Trio.TheVariants.{Voter, Module}
use Rattle.network.proofs.Inside.{Ends, step_link}
use Rattle.sets.specs.Lists.{any}
use Rattle.method.specs.Groups.{among}
use Rattle.method.proofs.Choices.{three}
use Rattle.method.proofs.Lists.{Rising, all_among, all_each, not_among}
use Rattle.method.proofs.Split.{join_none, marked}
use Rattle.method.proofs.Ways.{Mark, none, one, clash, factor, join, left_at, unmarked, ways}

-- ---- marks

-- there is a fault at position p
abbrev pub holds : Position → Mark → Bool
holds p none = false
holds p (one q) = eqb (index p) (index q)
holds p clash = true

same_index : (p : Position) → eqb (index p) (index p) ≡ true
same_index p = eq-eqb (index p) (index p) refl

holds_left : (p : Position) (m n : Mark) → holds p m ≡ true → holds p (join m n) ≡ true
holds_left p none n h = absurd (false≢true h)
holds_left p (one q) none h = h
holds_left p (one q) (one r) h = cond_both (eqb (index q) (index r)) (one q) clash (λ m. holds p m ≡ true) (λ _. h) (λ _. refl)
holds_left p (one q) clash h = refl
holds_left p clash n h = refl

holds_right : (p : Position) (m n : Mark) → holds p n ≡ true → holds p (join m n) ≡ true
holds_right p none n h = h
holds_right p (one q) none h = absurd (false≢true h)
holds_right p (one q) (one r) h =
    cond_both (eqb (index q) (index r)) (one q) clash (λ m. holds p m ≡ true)
    (λ e. eq-eqb (index p) (index q) (eqb-true (index p) (index r) h ∙ sym (eqb-true (index q) (index r) e)))
    (λ _. refl)
holds_right p (one q) clash h = refl
holds_right p clash n h = refl

-- faults at two positions
holds_two : (p q : Position) (m : Mark) → holds p m ≡ true → holds q m ≡ true → eqb (index p) (index q) ≡ false → m ≡ clash
holds_two p q none h k d = absurd (false≢true h)
holds_two p q (one r) h k d =
    absurd (both_ways (eqb (index p) (index q)) d (eq-eqb (index p) (index q) (eqb-true (index p) (index r) h ∙ sym (eqb-true (index q) (index r) k))))
holds_two p q clash h k d = refl

-- joining the same mark twice
join_again : (b c : Bool) (p : Position) (m : Mark) → join (join m (cond b (one p) none)) (cond c (one p) none) ≡ join m (cond (b || c) (one p) none)
join_again true true p none = ap (λ b. cond b (one p) clash) (same_index p)
join_again true true p (one q) = by (eqb (index q) (index p)) refl
  where
    by : (b : Bool) → eqb (index q) (index p) ≡ b → join (cond b (one q) clash) (one p) ≡ cond b (one q) clash
    by true e = ap (λ b. cond b (one q) clash) e
    by false e = refl
join_again true true p clash = refl
join_again true false p m = join_none (join m (one p))
join_again false c p m = ap (λ n. join n (cond c (one p) none)) (join_none m)

-- ---- along a chain

module _ (row : ℕ → ℕ → Bool) (rs : List ℕ) where
  -- the source has left its mark, a fault at p, wherever it reaches
  abbrev Placed : (ℕ → Mark) → ℕ → Position → Type 0
  Placed μ v p = (r : ℕ) → among rs r ≡ true → row v r ≡ true → holds p (μ r) ≡ true

  placed_stays : (μ : ℕ → Mark) (v : ℕ) (p : Position) (u : ℕ) (x : State) → Placed μ v p → Placed (marked row μ u x) v p
  placed_stays μ v p u x h r here reach = holds_left p (μ r) (left_at row u x r) (h r here reach)

  placed_new : (μ : ℕ → Mark) (v : ℕ) (p : Position) → Placed (marked row μ v (at p)) v p
  placed_new μ v p r here reach = holds_right p (μ r) (left_at row v (at p) r) (ap (λ b. holds p (cond b (one p) none)) reach ∙ same_index p)

module _ (row : ℕ → ℕ → Bool) (vs rs : List ℕ) where
  -- each source has still to be placed, or is
  abbrev Covered : List ℕ → (ℕ → Mark) → Type 0
  Covered us μ = (v : ℕ) → among vs v ≡ true → (among us v ≡ true) ⊎ ((p : Position) × Placed row rs μ v p)

  covered_next : (u : ℕ) (us : List ℕ) (μ : ℕ → Mark) (p : Position) → Covered (u ∷ us) μ → Covered us (marked row μ u (at p))
  covered_next u us μ p cover v here =
      ⊎_elim
      (λ left. ⊎_elim (λ same. inr (p, subst (λ y. Placed row rs (marked row μ u (at p)) y p) (sym (eqb-true v u same)) (placed_new row rs μ u p))) inl (or_cases (eqb v u) (among us v) left))
      (λ h. inr (h.0, placed_stays row rs μ v h.0 u (at p) h.1))
      (cover v here)

  -- a fault at p is there: a source has left its mark, or a place has one
  abbrev On : (ℕ → Mark) → Position → Trio → Type 0
  On μ p (Voter v) = (among vs v ≡ true) × Placed row rs μ v p
  On μ p (Module r) = (among rs r ≡ true) × (holds p (μ r) ≡ true)

  -- the links by which the sources reach the places: a link has both its ends among them, or none
  abbrev pub Within : List Link → Type 0
  Within ls = (v r : ℕ) → stands ls (v, r) ≡ true → (row v r ≡ true) × (among vs v ≡ among rs r)

  abbrev Clashes : (ℕ → Mark) → Type 0
  Clashes μ = (r : ℕ) × (among rs r ≡ true) × (μ r ≡ clash)

  -- where all sources are placed, and a chain leads from a trio with a fault at p to a source at another position, some place clashes
  clashes : (ls : List Link) → Within ls → (μ : ℕ → Mark) → ((v : ℕ) → among vs v ≡ true → (p : Position) × Placed row rs μ v p) → (w : ℕ) (q : Position) → Placed row rs μ w q
      → (t u : Trio) → Chain (map edge ls) t u → u ≡ Voter w → (t ≡ Voter w → ⊥) → (p : Position) → On μ p t → eqb (index p) (index q) ≡ false → Clashes μ
  clashes ls within μ all_Placed w q at_w t u (stay) end apart p on differ = absurd (apart end)
  clashes ls within μ all_Placed w q at_w t u (more {u = x} b c) end apart p on differ =
      ⊎_elim (λ e. down e.0 e.1 (clashes ls within μ all_Placed w q at_w x u c end)) (λ e. up e.0 e.1 (clashes ls within μ all_Placed w q at_w x u c end)) s.2
    where
      s : (l : Link) × (stands ls l ≡ true) × Ends l t x
      s = step_link ls t x b

      v : ℕ
      v = s.0.0

      r : ℕ
      r = s.0.1

      linked : (row v r ≡ true) × (among vs v ≡ among rs r)
      linked = within v r s.1

      Onward : Type 0
      Onward = (x ≡ Voter w → ⊥) → (p : Position) → On μ p x → eqb (index p) (index q) ≡ false → Clashes μ

      down : t ≡ Voter v → x ≡ Module r → Onward → Clashes μ
      down from to go =
          let here : On μ p (Voter v) = subst (On μ p) from on in
          let there : among rs r ≡ true = sym linked.1 ∙ here.0 in
          let next : On μ p x = subst (On μ p) (sym to) (there, here.1 r there linked.0) in
          go (λ e. module_not_voter (sym to ∙ e)) p next differ
        where
          module_not_voter : Module r ≡ Voter w → ⊥
          module_not_voter e = let z : ◌≡◌ {A = ℕ} 0 1 = cc in omega arith

      up : t ≡ Module r → x ≡ Voter v → Onward → Clashes μ
      up from to go =
          let here : On μ p (Module r) = subst (On μ p) from on in
          ⊎_elim
          (λ same. (r, here.0, holds_two p q (μ r) here.1 (at_w r here.0 (ap (λ y. row y r) (sym (eqb-true v w same)) ∙ linked.0)) differ))
          (λ other. step here.0 here.1 other (all_Placed v (linked.1 ∙ here.0)))
          (cases_Bool (eqb v w))
        where
          step : among rs r ≡ true → holds p (μ r) ≡ true → eqb v w ≡ false → (o : Position) × Placed row rs μ v o → Clashes μ
          step here fault other placed =
              ⊎_elim
              (λ same. go (λ e. both_ways (eqb v w) other (eq-eqb v w (same_voter (sym to ∙ e)))) placed.0
              (subst (On μ placed.0) (sym to) (linked.1 ∙ here, placed.1))
              (ap (λ y. eqb y (index q)) (sym (eqb-true (index p) (index placed.0) same)) ∙ differ))
              (λ two. (r, here, holds_two p placed.0 (μ r) fault (placed.1 r here linked.0) two))
              (cases_Bool (eqb (index p) (index placed.0)))
            where
              same_voter : Voter v ≡ Voter w → v ≡ w
              same_voter e = cc

-- ---- sums over the positions of tied sources

-- the sources at p, and the places at the marks that these leave there too
abbrev pub all_at : (k : Kind) → (ℕ → Weights k) → (ℕ → Weights k) → (ℕ → ℕ → Bool) → List ℕ → List ℕ → (ℕ → Mark) → Position → k.Value
all_at k sources places row us rs μ p =
    k.times (product k (λ v. sources v (at p)) us) (product k (λ r. factor k (places r) (join (μ r) (cond (any (λ v. row v r) us) (one p) none))) rs)

module _ (k : Kind) (laws : Laws k) where
  product_nothing : (f : ℕ → k.Value) (rs : List ℕ) (r : ℕ) → among rs r ≡ true → f r ≡ k.nothing → product k f rs ≡ k.nothing
  product_nothing f [] r here e = absurd (false≢true here)
  product_nothing f (x ∷ xs) r here e =
      (products k laws).cons f x xs
      ∙ ⊎_elim
      (λ same. ap (λ a. k.times a (product k f xs)) (ap f (sym (eqb-true r x same)) ∙ e) ∙ laws.times_nothing (product k f xs))
      (λ past. ap (k.times (f x)) (product_nothing f xs r past e) ∙ nothing_right k laws (f x))
      (or_cases (eqb r x) (among xs r) here)

  -- a sum over the positions in which one only counts
  sum_only : (f : State → k.Value) (p : Position) → ((q : Position) → eqb (index p) (index q) ≡ false → f (at q) ≡ k.nothing) → sum k f three ≡ f (at p)
  sum_only f A h =
      ap₂ (λ b c. k.plus (k.plus (k.plus k.nothing (f (at A))) b) c) (h B refl) (h C refl)
      ∙ op_empty (sums k laws) _ ∙ op_empty (sums k laws) _ ∙ laws.plus_nothing (f (at A))
  sum_only f B h =
      ap₂ (λ a c. k.plus (k.plus (k.plus k.nothing a) (f (at B))) c) (h A refl) (h C refl)
      ∙ op_empty (sums k laws) _ ∙ ap (λ a. k.plus a (f (at B))) (laws.plus_nothing k.nothing) ∙ laws.plus_nothing (f (at B))
  sum_only f C h =
      ap₂ (λ a b. k.plus (k.plus (k.plus k.nothing a) b) (f (at C))) (h A refl) (h B refl)
      ∙ ap (λ a. k.plus a (f (at C))) (op_empty (sums k laws) _ ∙ laws.plus_nothing k.nothing) ∙ laws.plus_nothing (f (at C))

  module _ (sources : ℕ → Weights k) (places : ℕ → Weights k) (row : ℕ → ℕ → Bool) where
    -- a place that clashes leaves nothing
    pub clash_stays : (ss : List State) (us rs : List ℕ) (μ : ℕ → Mark) (r : ℕ) → among rs r ≡ true → μ r ≡ clash → ways k sources places row ss us rs μ ≡ k.nothing
    clash_stays ss [] rs μ r here e = product_nothing (λ s. factor k (places s) (μ s)) rs r here (ap (factor k (places r)) e)
    clash_stays ss (u ∷ us) rs μ r here e =
        fold_empties (sums k laws) (λ x. k.times (sources u x) (ways k sources places row ss us rs (marked row μ u x))) ss
        (all_each (λ x. k.times (sources u x) (ways k sources places row ss us rs (marked row μ u x)) ≡ k.nothing)
        (λ x. ap (k.times (sources u x)) (clash_stays ss us rs (marked row μ u x) r here (ap (λ m. join m (left_at row u x r)) e)) ∙ nothing_right k laws (sources u x)) ss)

    abbrev held : List ℕ → List ℕ → (ℕ → Mark) → Position → k.Value
    held = all_at k sources places row

    held_more : (u : ℕ) (us rs : List ℕ) (μ : ℕ → Mark) (p : Position) → k.times (sources u (at p)) (held us rs (marked row μ u (at p)) p) ≡ held (u ∷ us) rs μ p
    held_more u us rs μ p =
        sym (laws.times_assoc (sources u (at p)) (product k (λ v. sources v (at p)) us) _)
        ∙ ap₂ k.times (sym ((products k laws).cons (λ v. sources v (at p)) u us))
        (λ i. product k (λ r. factor k (places r) (join_again (row u r) (any (λ v. row v r) us) p (μ r) i)) rs)

    module _ (ls : List Link) (vs rs : List ℕ) (within : Within row vs rs ls) (tied : (u w : ℕ) → among vs u ≡ true → among vs w ≡ true → Chain (map edge ls) (Voter u) (Voter w)) where
      abbrev over : List ℕ → (ℕ → Mark) → k.Value
      over us μ = ways k sources places row three us rs μ

      -- two sources at two positions leave nothing
      differ_nothing : (us : List ℕ) (μ : ℕ → Mark) (u w : ℕ) (p q : Position) → among vs u ≡ true → among vs w ≡ true → eqb u w ≡ false
          → eqb (index p) (index q) ≡ false → Placed row rs μ u p → Placed row rs μ w q → Covered row vs rs us μ → over us μ ≡ k.nothing
      differ_nothing [] μ u w p q u_in w_in apart differ at_u at_w cover =
          let found = clashes row vs rs ls within μ (λ v here. ⊎_elim (λ none_left. absurd (false≢true none_left)) (λ h. h) (cover v here)) w q at_w
          (Voter u) (Voter w) (tied u w u_in w_in) refl (λ e. both_ways (eqb u w) apart (eq-eqb u w (same_voter e))) p (u_in, at_u) differ in
          clash_stays three [] rs μ found.0 found.1 found.2
        where
          same_voter : Voter u ≡ Voter w → u ≡ w
          same_voter e = cc
      differ_nothing (v ∷ us) μ u w p q u_in w_in apart differ at_u at_w cover =
          let next : (o : Position) → over us (marked row μ v (at o)) ≡ k.nothing = λ o.
          differ_nothing us (marked row μ v (at o)) u w p q u_in w_in apart differ (placed_stays row rs μ u p v (at o) at_u) (placed_stays row rs μ w q v (at o) at_w) (covered_next row vs rs v us μ o cover) in
          fold_empties (sums k laws) (λ x. k.times (sources v x) (over us (marked row μ v x))) three (each A (next A), (each B (next B), (each C (next C), tt)))
        where
          each : (o : Position) → over us (marked row μ v (at o)) ≡ k.nothing → k.times (sources v (at o)) (over us (marked row μ v (at o))) ≡ k.nothing
          each o e = ap (k.times (sources v (at o))) e ∙ nothing_right k laws (sources v (at o))

      -- with one source at p already, all others are there too
      alike : (us : List ℕ) (μ : ℕ → Mark) (u : ℕ) (p : Position) → among vs u ≡ true → among us u ≡ false → All (λ v. among vs v ≡ true) us
          → Placed row rs μ u p → Covered row vs rs us μ → over us μ ≡ held us rs μ p
      alike [] μ u p u_in u_out inside at_u cover =
          sym (laws.times_unit (product k (λ r. factor k (places r) (join (μ r) none)) rs) ∙ (λ i. product k (λ r. factor k (places r) (join_none (μ r) i)) rs))
      alike (v ∷ us) μ u p u_in u_out inside at_u cover =
          let out = or_parts (eqb u v) (among us u) u_out in
          let later : Position → ℕ → Mark = λ q. marked row μ v (at q) in
          sum_only (λ x. k.times (sources v x) (over us (marked row μ v x))) p
          (λ q differ. ap (k.times (sources v (at q))) (differ_nothing us (later q) u v p q u_in inside.0 out.0 differ (placed_stays row rs μ u p v (at q) at_u) (placed_new row rs μ v q) (covered_next row vs rs v us μ q cover)) ∙ nothing_right k laws (sources v (at q)))
          ∙ ap (k.times (sources v (at p))) (alike us (later p) u p u_in out.1 inside.1 (placed_stays row rs μ u p v (at p) at_u) (covered_next row vs rs v us μ p cover))
          ∙ held_more v us rs μ p

    -- the sum over the positions of tied sources: all at A, or all at B, or all at C
    pub tied_ways : (ls : List Link) (vs rs : List ℕ) → Rising vs → (h : ℕ) → among vs h ≡ true → Within row vs rs ls
        → ((u w : ℕ) → among vs u ≡ true → among vs w ≡ true → Chain (map edge ls) (Voter u) (Voter w))
        → ways k sources places row three vs rs unmarked ≡ k.plus (k.plus (held vs rs unmarked A) (held vs rs unmarked B)) (held vs rs unmarked C)
    tied_ways ls [] rs rises h here within tied = absurd (false≢true here)
    tied_ways ls (v ∷ us) rs rises h here within tied = λ i. k.plus (k.plus ((laws.plus_nothing _ ∙ each A) i) (each B i)) (each C i)
      where
        each : (p : Position) → k.times (sources v (at p)) (ways k sources places row three us rs (marked row unmarked v (at p))) ≡ held (v ∷ us) rs unmarked p
        each p =
            ap (k.times (sources v (at p)))
            (alike ls (v ∷ us) rs within tied us (marked row unmarked v (at p)) v p (or_left (eqb v v) (among us v) (eq-eqb v v refl)) (not_among v us rises.0)
            (all_among (λ u. among (v ∷ us) u ≡ true) us (λ u h. or_right (eqb u v) (among us u) h))
            (placed_new row rs unmarked v p) (covered_next row (v ∷ us) rs v us unmarked p (λ u h. inl h)))
            ∙ held_more v us rs unmarked p

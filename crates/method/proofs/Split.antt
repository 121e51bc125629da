-- Sources and places that fall into classes: the sum over all states is the product of the classes' sums.
use Rattle.std.proofs.Common.{◌≡◌, ℕ, Bool, true, false, cond, not, ◌&&◌, ◌||◌, List, [], ◌∷◌, filter, sym, refl, ap, ◌∙◌, ap₂, ⊎_elim}
use Rattle.std.specs.List.{AllByRecursion as All}
use Rattle.std.proofs.ByRecursion.{All-weaker, all_kept_by, kept_by_passes}
use Rattle.std.proofs.lemmas.Bool.{both_ways, false≢true, not-true, or_cases}
use Rattle.algebra.specs.Laws.{Kind, Laws}
use Rattle.algebra.specs.Sums.{product}
use Rattle.algebra.proofs.Sums.{fold_same, fold_same_on, fold_split, op_empty, products, sum_times, sums}
use Rattle.network.specs.Patterns.{State, Weights}
use Rattle.network.proofs.InOrder.{InOrder}
use Rattle.sets.specs.Lists.{any}
use Rattle.sets.proofs.Kept.{kept_same}
use Rattle.method.proofs.Lists.{all_each, all_kept, kept_all, kept_no, kept_past, kept_twice}
use Rattle.method.proofs.Ways.{Mark, none, one, clash, factor, join, left_at, mark_of, ways}

pub join_none : (m : Mark) → join m none ≡ m
join_none none = refl
join_none (one p) = refl
join_none clash = refl

-- the marks after a source's own
abbrev pub marked : (ℕ → ℕ → Bool) → (ℕ → Mark) → ℕ → State → ℕ → Mark
marked row μ v x r = join (μ r) (left_at row v x r)

pub marked_off : (row : ℕ → ℕ → Bool) (μ : ℕ → Mark) (v : ℕ) (x : State) (r : ℕ) → row v r ≡ false → marked row μ v x r ≡ μ r
marked_off row μ v x r e = ap (λ b. join (μ r) (cond b (mark_of x) none)) e ∙ join_none (μ r)

-- Classes of sources and of places, one for each head: p h and q h are the tests for the class of h.
pub record Classes {X : Type 0} (p q : X → ℕ → Bool) (row : ℕ → ℕ → Bool) (hs : List X) (vs : List ℕ) : Type 0 where
  -- each source is in a class
  pub covers : All (λ v. any (λ h. p h v) hs ≡ true) vs
  -- no two classes have a source or a place in common
  pub apart : InOrder (λ g h. ((v : ℕ) → p g v ≡ true → p h v ≡ false) × ((r : ℕ) → q g r ≡ true → q h r ≡ false)) hs
  -- a source reaches only places of its own class
  pub inside : All (λ v. (h : X) (r : ℕ) → row v r ≡ true → p h v ≡ q h r) vs

module _ (k : Kind) (laws : Laws k) (sources : ℕ → Weights k) (places : ℕ → Weights k) (row : ℕ → ℕ → Bool) (ss : List State) where
  abbrev over : List ℕ → List ℕ → (ℕ → Mark) → k.Value
  over = ways k sources places row ss

  abbrev at_places : (ℕ → Mark) → List ℕ → k.Value
  at_places μ rs = product k (λ r. factor k (places r) (μ r)) rs

  -- only the marks at the places count
  pub same_marks : (vs rs : List ℕ) (μ ν : ℕ → Mark) → All (λ r. μ r ≡ ν r) rs → over vs rs μ ≡ over vs rs ν
  same_marks [] rs μ ν h =
      fold_same_on (products k laws) (λ r. factor k (places r) (μ r)) (λ r. factor k (places r) (ν r)) rs
      (All-weaker (λ r. μ r ≡ ν r) (λ r. factor k (places r) (μ r) ≡ factor k (places r) (ν r)) (λ r e. ap (factor k (places r)) e) rs h)
  same_marks (v ∷ vs) rs μ ν h =
      fold_same (sums k laws) (λ x. k.times (sources v x) (over vs rs (marked row μ v x))) (λ x. k.times (sources v x) (over vs rs (marked row ν v x))) ss
      (λ x. ap (k.times (sources v x)) (same_marks vs rs (marked row μ v x) (marked row ν v x)
      (All-weaker (λ r. μ r ≡ ν r) (λ r. marked row μ v x r ≡ marked row ν v x r) (λ r e. ap (λ m. join m (left_at row v x r)) e) rs h)))

  -- one source more on one side of a split
  one_more : (v : ℕ) (vs us ws rs near far : List ℕ) (μ : ℕ → Mark) → All (λ r. row v r ≡ false) far
      → ((ν : ℕ → Mark) → over vs rs ν ≡ k.times (over us near ν) (over ws far ν)) → over (v ∷ vs) rs μ ≡ k.times (over (v ∷ us) near μ) (over ws far μ)
  one_more v vs us ws rs near far μ off ih =
      fold_same (sums k laws) (λ x. k.times (sources v x) (over vs rs (marked row μ v x))) (λ x. k.times (k.times (sources v x) (over us near (marked row μ v x))) (over ws far μ)) ss
      (λ x. ap (k.times (sources v x)) (ih (marked row μ v x) ∙ ap (k.times (over us near (marked row μ v x))) (same_marks ws far (marked row μ v x) μ
      (All-weaker (λ r. row v r ≡ false) (λ r. marked row μ v x r ≡ μ r) (λ r e. marked_off row μ v x r e) far off)))
      ∙ sym (laws.times_assoc (sources v x) (over us near (marked row μ v x)) (over ws far μ)))
      ∙ sym (sum_times k laws (λ x. k.times (sources v x) (over us near (marked row μ v x))) (over ws far μ) ss)

  -- in two: the sources that pass p, with the places that pass q, and the others
  pub split : (p q : ℕ → Bool) (vs rs : List ℕ) → All (λ v. (r : ℕ) → row v r ≡ true → p v ≡ q r) vs → (μ : ℕ → Mark)
      → over vs rs μ
      ≡ k.times (over (filter p vs) (filter q rs) μ) (over (filter (λ v. not (p v)) vs) (filter (λ r. not (q r)) rs) μ)
  split p q [] rs inside μ = fold_split (products k laws) (λ r. factor k (places r) (μ r)) q rs
  split p q (v ∷ vs) rs inside μ = by (p v) refl (split p q vs rs inside.1)
    where
      us : List ℕ
      us = filter p vs

      ws : List ℕ
      ws = filter (λ u. not (p u)) vs

      near : List ℕ
      near = filter q rs

      far : List ℕ
      far = filter (λ r. not (q r)) rs

      never : (b c d : Bool) → (b ≡ true → c ≡ d) → (c ≡ d → ⊥) → b ≡ false
      never true c d f n = absurd (n (f refl))
      never false c d f n = refl

      by : (b : Bool) → p v ≡ b → ((ν : ℕ → Mark) → over vs rs ν ≡ k.times (over us near ν) (over ws far ν))
          → over (v ∷ vs) rs μ ≡ k.times (over (cond b (v ∷ us) us) near μ) (over (cond (not b) (v ∷ ws) ws) far μ)
      by true e ih =
          one_more v vs us ws rs near far μ
          (All-weaker (λ r. not (q r) ≡ true) (λ r. row v r ≡ false) (λ r n. never (row v r) (p v) (q r) (inside.0 r) (λ s. both_ways (q r) (not-true (q r) n) (sym s ∙ e))) far (kept_by_passes (λ r. not (q r)) rs)) ih
      by false e ih =
          one_more v vs ws us rs far near μ
          (All-weaker (λ r. q r ≡ true) (λ r. row v r ≡ false) (λ r n. never (row v r) (p v) (q r) (inside.0 r) (λ s. both_ways (q r) (sym s ∙ e) n)) near (kept_by_passes q rs))
          (λ ν. ih ν ∙ laws.times_comm (over us near ν) (over ws far ν))
          ∙ laws.times_comm (over (v ∷ ws) far μ) (over us near μ)

  module _ {X : Type 0} (p q : X → ℕ → Bool) where
    -- in classes: the product over the heads, and what the places in no class add
    pub split_classes : (hs : List X) (vs rs : List ℕ) (μ : ℕ → Mark) → Classes p q row hs vs
        → over vs rs μ
        ≡ k.times (product k (λ h. over (filter (p h) vs) (filter (q h) rs) μ) hs)
        (at_places μ (filter (λ r. not (any (λ h. q h r) hs)) rs))
    split_classes [] [] rs μ c =
        sym (laws.times_unit (at_places μ (filter (λ r. true) rs)) ∙ ap (at_places μ) (kept_all (λ r. true) rs (all_each (λ r. true ≡ true) (λ r. refl) rs)))
    split_classes [] (v ∷ vs) rs μ c = absurd (false≢true c.covers.0)
    split_classes (h ∷ hs) vs rs μ c =
        split (p h) (q h) vs rs (All-weaker Inside (λ v. (r : ℕ) → row v r ≡ true → p h v ≡ q h r) (λ v i. i h) vs c.inside) μ
        ∙ ap (k.times first) (split_classes hs (filter (λ v. not (p h v)) vs) (filter (λ r. not (q h r)) rs) μ later
        ∙ ap₂ k.times same_classes same_rest)
        ∙ sym (laws.times_assoc first (product k class hs) rest)
        ∙ ap (λ a. k.times a rest) (sym ((products k laws).cons class h hs))
      where
        class : X → k.Value
        class g = over (filter (p g) vs) (filter (q g) rs) μ

        first : k.Value
        first = class h

        rest : k.Value
        rest = at_places μ (filter (λ r. not (any (λ g. q g r) (h ∷ hs))) rs)

        Inside : ℕ → Type 0
        Inside v = (g : X) (r : ℕ) → row v r ≡ true → p g v ≡ q g r

        Apart : X → Type 0
        Apart g = ((v : ℕ) → p h v ≡ true → p g v ≡ false) × ((r : ℕ) → q h r ≡ true → q g r ≡ false)

        neither : (a b : Bool) → (not a && not b) ≡ not (a || b)
        neither true b = refl
        neither false b = refl

        later : Classes p q row hs (filter (λ v. not (p h v)) vs)
        later =
            record {
              covers = all_kept (λ v. not (p h v)) (λ v. any (λ g. p g v) (h ∷ hs) ≡ true) (λ v. any (λ g. p g v) hs ≡ true)
                  (λ v e s. ⊎_elim (λ t. absurd (both_ways (p h v) (not-true (p h v) e) t)) (λ t. t) (or_cases (p h v) (any (λ g. p g v) hs) s)) vs c.covers;
              apart = c.apart.1;
              inside = all_kept_by (λ v. not (p h v)) Inside vs c.inside;
            }

        same_classes : product k (λ g. over (filter (p g) (filter (λ v. not (p h v)) vs)) (filter (q g) (filter (λ r. not (q h r)) rs)) μ) hs ≡ product k class hs
        same_classes =
            fold_same_on (products k laws) (λ g. over (filter (p g) (filter (λ v. not (p h v)) vs)) (filter (q g) (filter (λ r. not (q h r)) rs)) μ) class hs
            (All-weaker Apart (λ g. over (filter (p g) (filter (λ v. not (p h v)) vs)) (filter (q g) (filter (λ r. not (q h r)) rs)) μ ≡ class g)
            (λ g a. ap₂ (λ us ts. over us ts μ) (kept_past (p g) (p h) vs a.0) (kept_past (q g) (q h) rs a.1)) hs c.apart.0)

        same_rest : at_places μ (filter (λ r. not (any (λ g. q g r) hs)) (filter (λ r. not (q h r)) rs)) ≡ rest
        same_rest =
            ap (at_places μ) (kept_twice (λ r. not (any (λ g. q g r) hs)) (λ r. not (q h r)) rs
            ∙ kept_same (λ r. not (q h r) && not (any (λ g. q g r) hs)) (λ r. not (any (λ g. q g r) (h ∷ hs))) rs (λ r. neither (q h r) (any (λ g. q g r) hs)))

    -- where each place is in a class too, nothing is left
    pub split_covered : (hs : List X) (vs rs : List ℕ) (μ : ℕ → Mark) → Classes p q row hs vs → All (λ r. any (λ h. q h r) hs ≡ true) rs
        → over vs rs μ ≡ product k (λ h. over (filter (p h) vs) (filter (q h) rs) μ) hs
    split_covered hs vs rs μ c full =
        split_classes hs vs rs μ c
        ∙ ap (λ ts. k.times (product k (λ h. over (filter (p h) vs) (filter (q h) rs) μ) hs) (at_places μ ts))
        (kept_no (λ r. not (any (λ h. q h r) hs)) rs (All-weaker (λ r. any (λ h. q h r) hs ≡ true) (λ r. not (any (λ h. q h r) hs) ≡ false) (λ r e. ap not e) rs full))
        ∙ op_empty (products k laws) (product k (λ h. over (filter (p h) vs) (filter (q h) rs) μ) hs)

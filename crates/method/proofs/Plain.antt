-- The total over the tolerated patterns is the sum over the voters' ways to leave marks at the modules.
use Rattle.std.proofs.Common.{◌≡◌, ℕ, zero, suc, ◌+◌, Bool, true, false, cond, not, ◌&&◌, ◌||◌, List, [], ◌∷◌, ◌++◌, map, length, sym, refl, ap, ◌∙◌, subst, ap₂, arith}
use lib.ListN.{length-map}
use Rattle.std.specs.List.{range_with_len, zip}
use Rattle.std.proofs.lemmas.List.FromFn.{fill_by_all, length-range_with_len}
use Rattle.std.proofs.lemmas.List.{map-append}
use Rattle.algebra.specs.Laws.{Kind, Laws}
use Rattle.algebra.specs.Sums.{product, sum}
use Rattle.algebra.proofs.Sums.{fold_joined, fold_kept, fold_map, fold_same, nothing_right, op_empty, products, sum_times, sums, times_sum}
use Rattle.sets.specs.Lists.{all}
use Rattle.sets.proofs.Kept.{counting_split}
use Rattle.network.specs.Networks.{Network, linked, module_count, voter_count}
use Rattle.network.specs.Patterns.{Pattern, A, B, C, State, Weights, assignments, faulty_at, patterns, states, tolerated, total, weight}
use Rattle.method.specs.Method.{entry, merged}
use Rattle.method.proofs.Halves.{map_shifted, sound, tolerated_halves, two}
use Rattle.method.proofs.Marks.{gathered, gathered_summary, reached_at, summary}
use Rattle.method.proofs.Ways.{Mark, factor, join, left_at, unmarked, ways}

module _ (k : Kind) (laws : Laws k) where
  -- ---- sums over all ways to give trios a state each

  sum_same : {X : Type 0} (f g : X → k.Value) (xs : List X) → ((x : X) → f x ≡ g x) → sum k f xs ≡ sum k g xs
  sum_same = fold_same (sums k laws)

  pub assign_first : (f : Pattern → k.Value) (c : ℕ) → sum k f (assignments (suc c)) ≡ sum k (λ x. sum k (λ rest. f (x ∷ rest)) (assignments c)) states
  assign_first f c =
      fold_joined (sums k laws) f (λ x. map (λ rest. x ∷ rest) (assignments c)) states
      ∙ sum_same _ _ states (λ x. fold_map (sums k laws) f (λ rest. x ∷ rest) (assignments c))

  pub assign_halves : (a b : ℕ) (f : Pattern → k.Value) → sum k f (assignments (a + b)) ≡ sum k (λ vs. sum k (λ ms. f (vs ++ ms)) (assignments b)) (assignments a)
  assign_halves zero b f = let e : 0 + b ≡ b = omega arith in ap (λ c. sum k f (assignments c)) e ∙ sym (laws.plus_nothing _)
  assign_halves (suc a) b f =
      let e : suc a + b ≡ suc (a + b) = omega arith in
      ap (λ c. sum k f (assignments c)) e
      ∙ assign_first f (a + b)
      ∙ sum_same _ _ states (λ x. assign_halves a b (λ rest. f (x ∷ rest)))
      ∙ sym (assign_first (λ vs. sum k (λ ms. f (vs ++ ms)) (assignments b)) a)

  pub assign_same : (c : ℕ) (f g : Pattern → k.Value) → ((xs : Pattern) → length xs ≡ c → f xs ≡ g xs) → sum k f (assignments c) ≡ sum k g (assignments c)
  assign_same zero f g h = ap (k.plus k.nothing) (h [] refl)
  assign_same (suc c) f g h =
      assign_first f c
      ∙ sum_same _ _ states (λ x. assign_same c (λ rest. f (x ∷ rest)) (λ rest. g (x ∷ rest)) (λ rest e. h (x ∷ rest) (ap suc e)))
      ∙ sym (assign_first g c)

  -- ---- weights

  pub weight_cons : (u : Weights k) (us : List (Weights k)) (x : State) (xs : Pattern) → weight k (u ∷ us) (x ∷ xs) ≡ k.times (u x) (weight k us xs)
  weight_cons u us x xs = (products k laws).cons (λ e. e.0 e.1) (u, x) (zip us xs)

  pub weight_append : (us ws : List (Weights k)) (xs ys : Pattern) → length us ≡ length xs → weight k (us ++ ws) (xs ++ ys) ≡ k.times (weight k us xs) (weight k ws ys)
  weight_append [] ws [] ys h = sym (laws.times_unit (weight k ws ys))
  weight_append [] ws (x ∷ xs) ys h = absurd (omega arith)
  weight_append (u ∷ us) ws [] ys h = absurd (omega arith)
  weight_append (u ∷ us) ws (x ∷ xs) ys h =
      weight_cons u (us ++ ws) x (xs ++ ys)
      ∙ ap (k.times (u x)) (weight_append us ws xs ys (omega arith))
      ∙ sym (laws.times_assoc (u x) (weight k us xs) (weight k ws ys))
      ∙ ap (λ w. k.times w (weight k ws ys)) (sym (weight_cons u us x xs))

  -- a test of each trio and its state goes into the weights
  abbrev only : (ℕ → State → Bool) → (ℕ → Weights k) → ℕ → Weights k
  only ok u r x = cond (ok r x) (u r x) k.nothing

  weight_only : (ok : ℕ → State → Bool) (u : ℕ → Weights k) (rs : List ℕ) (xs : Pattern)
      → cond (all (λ e. ok e.0 e.1) (zip rs xs)) (weight k (map u rs) xs) k.nothing ≡ weight k (map (only ok u) rs) xs
  weight_only ok u [] xs = refl
  weight_only ok u (r ∷ rs) [] = refl
  weight_only ok u (r ∷ rs) (x ∷ xs) =
      ap (λ w. cond (ok r x && all (λ e. ok e.0 e.1) (zip rs xs)) w k.nothing) (weight_cons (u r) (map u rs) x xs)
      ∙ both (ok r x) (all (λ e. ok e.0 e.1) (zip rs xs)) (u r x) (weight k (map u rs) xs)
      ∙ ap (k.times (only ok u r x)) (weight_only ok u rs xs)
      ∙ sym (weight_cons (only ok u r) (map (only ok u) rs) x xs)
    where
      both : (b c : Bool) (v w : k.Value) → cond (b && c) (k.times v w) k.nothing ≡ k.times (cond b v k.nothing) (cond c w k.nothing)
      both true true v w = refl
      both true false v w = sym (nothing_right k laws v)
      both false c v w = sym (laws.times_nothing (cond c w k.nothing))

  -- trios that do not hang together: the product of each trio's own sum
  weight_apart : (us : List (Weights k)) → sum k (weight k us) (assignments (length us)) ≡ product k (λ u. sum k u states) us
  weight_apart [] = laws.plus_nothing k.unit
  weight_apart (u ∷ us) =
      let rest = assignments (length us) in
      assign_first (weight k (u ∷ us)) (length us)
      ∙ sum_same _ _ states (λ x. sum_same _ _ rest (λ xs. weight_cons u us x xs) ∙ sym (times_sum k laws (u x) (weight k us) rest))
      ∙ sym (sum_times k laws u (sum k (weight k us) rest) states)
      ∙ ap (k.times (sum k u states)) (weight_apart us)
      ∙ sym ((products k laws).cons (λ u. sum k u states) u us)

  -- ---- a module trio, the voters' states being fixed

  plus_none : (x : k.Value) → k.plus x k.nothing ≡ x
  plus_none x = op_empty (sums k laws) x

  module_sum : (u : Weights k) (b c d : Bool) → sum k (λ x. cond (not (two (faulty_at A x || b) (faulty_at B x || c) (faulty_at C x || d))) (u x) k.nothing) states ≡ factor k (merged k u) (summary b c d)
  module_sum u true true d = simp plus_none
  module_sum u true false true = simp plus_none
  module_sum u true false false = simp (plus_none, laws.plus_nothing)
  module_sum u false true true = simp plus_none
  module_sum u false true false = simp (plus_none, laws.plus_nothing)
  module_sum u false false true = simp (plus_none, laws.plus_nothing)
  module_sum u false false false = simp laws.plus_nothing

  -- ---- the voters' states one by one

  module _ (sources places : ℕ → Weights k) (row : ℕ → ℕ → Bool) where
    voters_ways : (ss rs : List ℕ) (marks : ℕ → Mark)
        → sum k (λ xs. k.times (weight k (map sources ss) xs) (product k (λ r. factor k (places r) (gathered row marks (zip ss xs) r)) rs)) (assignments (length ss)) ≡ ways k sources places row states ss rs marks
    voters_ways [] rs marks = laws.plus_nothing _ ∙ laws.times_unit _
    voters_ways (s ∷ ss) rs marks =
        let rest = assignments (length ss) in
        assign_first _ (length ss)
        ∙ sum_same _ _ states (λ x.
        let on : ℕ → Mark = λ r. join (marks r) (left_at row s x r) in
        sum_same _ _ rest (λ xs. ap (λ w. k.times w (product k (λ r. factor k (places r) (gathered row on (zip ss xs) r)) rs)) (weight_cons (sources s) (map sources ss) x xs) ∙ laws.times_assoc _ _ _)
        ∙ sym (times_sum k laws (sources s x) _ rest)
        ∙ ap (k.times (sources s x)) (voters_ways ss rs on))

  -- ---- the whole network

  weights_halves : (a b : ℕ) (ws : List (Weights k)) → length ws ≡ a + b → ws ≡ map (entry k ws) (range_with_len 0 a) ++ map (λ m. entry k ws (a + m)) (range_with_len 0 b)
  weights_halves a b ws long =
      let own = entry k ws in
      let e : 0 + a ≡ a + 0 = omega arith in
      fill_by_all own ws (a + b) (λ _. k.unit) long (λ i lt. refl)
      ∙ ap (map own) (counting_split 0 a b)
      ∙ map-append own (range_with_len 0 a) (range_with_len (0 + a) b)
      ∙ ap (λ l. map own (range_with_len 0 a) ++ l) (ap (λ s. map own (range_with_len s b)) e ∙ map_shifted own a 0 b)

  module _ (n : Network) (ws : List (Weights k)) (long : length ws ≡ voter_count n + module_count n) where
    abbrev voters : List ℕ
    voters = range_with_len 0 (voter_count n)

    abbrev modules : List ℕ
    modules = range_with_len 0 (module_count n)

    abbrev own : ℕ → Weights k
    own m = entry k ws (voter_count n + m)

    -- the weights of the modules, where the voters are in states vs and two bad positions count nothing
    abbrev left : Pattern → List (Weights k)
    left vs = map (only (sound n (zip voters vs)) own) modules

    halves : (vs ms : Pattern) → length vs ≡ voter_count n → length ms ≡ module_count n
        → cond (tolerated n (vs ++ ms)) (weight k ws (vs ++ ms)) k.nothing ≡ k.times (weight k (map (entry k ws) voters) vs) (weight k (left vs) ms)
    halves vs ms vs_long ms_long =
        let ok = sound n (zip voters vs) in
        let front = weight k (map (entry k ws) voters) vs in
        let back = weight k (map own modules) ms in
        let long_enough : length (map (entry k ws) voters) ≡ length vs = length-map voters (entry k ws) ∙ length-range_with_len 0 (voter_count n) ∙ sym vs_long in
        let split : weight k ws (vs ++ ms) ≡ k.times front back =
        ap (λ us. weight k us (vs ++ ms)) (weights_halves (voter_count n) (module_count n) ws long)
        ∙ weight_append (map (entry k ws) voters) (map own modules) vs ms long_enough in
        ap₂ (λ (b : Bool) (w : k.Value). cond b w k.nothing) (tolerated_halves n vs ms vs_long ms_long) split
        ∙ inner (all (λ e. ok e.0 e.1) (zip modules ms)) front back
        ∙ ap (k.times front) (weight_only ok own modules ms)
      where
        inner : (b : Bool) (v w : k.Value) → cond b (k.times v w) k.nothing ≡ k.times v (cond b w k.nothing)
        inner true v w = refl
        inner false v w = sym (nothing_right k laws v)

    -- the modules' states are summed out
    modules_sum : (vs : Pattern) → sum k (weight k (left vs)) (assignments (module_count n)) ≡ product k (λ m. factor k (merged k (own m)) (gathered (linked n) unmarked (zip voters vs) m)) modules
    modules_sum vs =
        let es = zip voters vs in
        let count : module_count n ≡ length (left vs) = sym (length-map modules (only (sound n es) own) ∙ length-range_with_len 0 (module_count n)) in
        ap (λ c. sum k (weight k (left vs)) (assignments c)) count
        ∙ weight_apart (left vs)
        ∙ fold_map (products k laws) (λ u. sum k u states) (only (sound n es) own) modules
        ∙ fold_same (products k laws) _ _ modules (λ m.
        module_sum (own m) (reached_at (linked n) m A es) (reached_at (linked n) m B es) (reached_at (linked n) m C es)
        ∙ ap (factor k (merged k (own m))) (sym (gathered_summary (linked n) unmarked es m false false false refl)))

    pub total_ways : total k n ws ≡ ways k (entry k ws) (λ m. merged k (own m)) (linked n) states voters modules unmarked
    unfolding total patterns
    total_ways =
        let a = voter_count n in
        let b = module_count n in
        let front = weight k (map (entry k ws) voters) in
        let last : ℕ → Type 0 = λ c. sum k (λ vs. k.times (front vs) (product k (λ m. factor k (merged k (own m)) (gathered (linked n) unmarked (zip voters vs) m)) modules)) (assignments c) ≡ ways k (entry k ws) (λ m. merged k (own m)) (linked n) states voters modules unmarked in
        fold_kept (sums k laws) (weight k ws) (tolerated n) (assignments (a + b))
        ∙ assign_halves a b (λ pattern. cond (tolerated n pattern) (weight k ws pattern) k.nothing)
        ∙ assign_same a _ _ (λ vs vs_long.
        assign_same b _ _ (λ ms ms_long. halves vs ms vs_long ms_long)
        ∙ sym (times_sum k laws (front vs) (weight k (left vs)) (assignments b))
        ∙ ap (k.times (front vs)) (modules_sum vs))
        ∙ subst last (length-range_with_len 0 a) (voters_ways (entry k ws) (λ m. merged k (own m)) (linked n) voters modules unmarked)

-- The polynomials over a kind that keeps the laws keep them too.
use Rattle.std.specs.Prelude.{◌≡◌, ℕ, zero, suc, ◌<◌, ◌≤◌}
use Rattle.std.proofs.Common.{arith, sym, ap₂, ◌∙◌}
use Rattle.std.proofs.Math.Path.{refl, ap}
use Rattle.algebra.specs.Laws.{Kind, Laws}
use Rattle.matrices.specs.Polynomials.{Coefficients, table, at, product_at, polynomials}
use Rattle.matrices.specs.Series.{series_at, product_series, series_same, series_assoc, series_comm, series_unit, series_nothing, series_distributes}

pub table_same : {V : Type 0} (d : ℕ) (f g : ℕ → V) → ((i : ℕ) → i < d → f i ≡ g i) → table d f ≡ table d g
unfolding table Coefficients
table_same zero f g same = refl
table_same (suc d) f g same =
    ap₂ (λ x p. (x, p)) (same 0 (omega arith)) (table_same d (λ i. f (suc i)) (λ i. g (suc i)) (λ i h. same (suc i) (omega arith)))

module _ (k : Kind) where
  pub at_table : (d : ℕ) (f : ℕ → k.Value) (i : ℕ) → i < d → at k d (table d f) i ≡ f i
  unfolding at table Coefficients
  at_table zero f i h = absurd (omega arith)
  at_table (suc d) f zero h = refl
  at_table (suc d) f (suc i) h = at_table d (λ j. f (suc j)) i (omega arith)

  pub table_at : (d : ℕ) (p : Coefficients k.Value d) → table d (at k d p) ≡ p
  unfolding at table Coefficients
  table_at zero p = refl
  table_at (suc d) p = ap (λ q. (p.0, q)) (table_at d p.1)

module _ (d : ℕ) (k : Kind) (laws : Laws k) where
  product_same : (f f' g g' : ℕ → k.Value) (i : ℕ) → ((j : ℕ) → j ≤ i → f j ≡ f' j) → ((j : ℕ) → j ≤ i → g j ≡ g' j) → product_at k f g i ≡ series_at k f' g' i
  product_same f f' g g' i left right = product_series k laws f g i ∙ series_same k f f' g g' i left right

  -- the coefficients of a product, below i, as those of an unbroken row
  times_at : (x y : Coefficients k.Value d) (i : ℕ) → i < d → (j : ℕ) → j ≤ i → at k d (table d (product_at k (at k d x) (at k d y))) j ≡ series_at k (at k d x) (at k d y) j
  times_at x y i h j le = at_table k d _ j (omega arith) ∙ product_series k laws _ _ j

  pub polynomials_laws : Laws (polynomials d k)
  polynomials_laws = record {
    plus_assoc = λ x y z. table_same d _ _ (λ i h.
        ap (λ v. k.plus v (at k d z i)) (at_table k d _ i h)
        ∙ laws.plus_assoc _ _ _
        ∙ ap (k.plus (at k d x i)) (sym (at_table k d _ i h)));
    plus_comm = λ x y. table_same d _ _ (λ i h. laws.plus_comm _ _);
    plus_nothing = λ x. table_same d _ _ (λ i h. ap (λ v. k.plus v (at k d x i)) (at_table k d _ i h) ∙ laws.plus_nothing _) ∙ table_at k d x;
    times_assoc = λ x y z. table_same d _ _ (λ i h.
        product_same _ _ _ _ i (times_at x y i h) (λ j le. refl)
        ∙ series_assoc k laws (at k d x) (at k d y) (at k d z) i
        ∙ sym (product_same _ _ _ _ i (λ j le. refl) (times_at y z i h)));
    times_comm = λ x y. table_same d _ _ (λ i h. product_series k laws _ _ i ∙ series_comm k laws _ _ i ∙ sym (product_series k laws _ _ i));
    times_unit = λ x. table_same d _ _ (λ i h. product_same _ _ _ _ i (λ j le. at_table k d _ j (omega arith)) (λ j le. refl) ∙ series_unit k laws _ i) ∙ table_at k d x;
    distributes = λ x y z. table_same d _ _ (λ i h.
        product_same _ _ _ _ i (λ j le. refl) (λ j le. at_table k d _ j (omega arith))
        ∙ series_distributes k laws (at k d x) (at k d y) (at k d z) i
        ∙ sym (ap₂ k.plus (at_table k d _ i h ∙ product_series k laws _ _ i) (at_table k d _ i h ∙ product_series k laws _ _ i)));
    times_nothing = λ x. table_same d _ _ (λ i h. product_same _ _ _ _ i (λ j le. at_table k d _ j (omega arith)) (λ j le. refl) ∙ series_nothing k laws _ i);
  }

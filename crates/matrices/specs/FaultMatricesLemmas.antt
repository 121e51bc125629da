-- Fault matrices keep the laws of a scale, and plus and times go by entries.
use Rattle.std.specs.Prelude.{◌≡◌, ℕ, suc, ◌-◌, ◌<◌, true, false, cond, ◌&&◌, List, [], ◌∷◌, ◌==◌, refl}
use Rattle.std.proofs.Common.{sym, ap, ◌∙◌}
use Rattle.std.proofs.Math.Path.{fun_ext}
use Rattle.algebra.specs.Laws.{Kind, Laws}
use Rattle.algebra.specs.Sums.{sum, sum_on}
use Rattle.matrices.specs.FaultMatrices.{fault_rows, fault_matrices, entry_at, matrix, powers, product_entry, row_product}
use Rattle.matrices.specs.Polynomials.{Coefficients, polynomials, table, at, product_at, power}
use Rattle.matrices.specs.PolynomialsLemmas.{table_same, at_table, table_at, polynomials_laws}
use Rattle.scales.specs.Counts.{counts}
use Rattle.scales.specs.CountsLemmas.{counts_laws}
use Rattle.std.specs.List.{range_with_len}

-- a sum of polynomials, coefficient by coefficient
module _ (d : ℕ) (k : Kind) (f : ℕ → Coefficients k.Value d) where
  sum_on_table : (p : Coefficients k.Value d) (xs : List ℕ) → sum_on (polynomials d k) f p xs ≡ table d (λ j. sum_on k (λ a. at k d (f a) j) (at k d p j) xs)
  sum_on_table p [] = sym (table_at k d p)
  sum_on_table p (x ∷ xs) =
      sum_on_table ((polynomials d k).plus p (f x)) xs
      ∙ table_same d _ _ (λ j h. ap (λ acc. sum_on k (λ a. at k d (f a) j) acc xs) (at_table k d _ j h))

  sum_table : (xs : List ℕ) → sum (polynomials d k) f xs ≡ table d (λ j. sum k (λ a. at k d (f a) j) xs)
  sum_table xs =
      sum_on_table (polynomials d k).nothing xs
      ∙ table_same d _ _ (λ j h. ap (λ acc. sum_on k (λ a. at k d (f a) j) acc xs) (at_table k d _ j h))

pub fault_matrices_laws : Laws fault_matrices
unfolding fault_matrices fault_rows
fault_matrices_laws = polynomials_laws 17 (polynomials 16 counts) (polynomials_laws 16 counts counts_laws)

pub entry_matrix : (f : ℕ → ℕ → counts.Value) (i j : ℕ) → i < 17 → j < 16 → entry_at (matrix f) i j ≡ f i j
unfolding entry_at matrix fault_matrices fault_rows
entry_matrix f i j row column =
    ap (λ p. at counts 16 p j) (at_table fault_rows 17 (λ a. table 16 (f a)) i row) ∙ at_table counts 16 (f i) j column

pub matrix_entry : (v : fault_matrices.Value) → matrix (entry_at v) ≡ v
unfolding entry_at matrix fault_matrices fault_rows
matrix_entry v = table_same 17 _ _ (λ i h. table_at counts 16 (at fault_rows 17 v i)) ∙ table_at fault_rows 17 v

pub matrix_same : (f g : ℕ → ℕ → counts.Value) → ((i j : ℕ) → i < 17 → j < 16 → f i j ≡ g i j) → matrix f ≡ matrix g
unfolding matrix fault_matrices fault_rows
matrix_same f g same = table_same 17 _ _ (λ i row. table_same 16 _ _ (λ j column. same i j row column))

pub nothing_entries : fault_matrices.nothing ≡ matrix (λ i j. counts.nothing)
unfolding matrix fault_matrices fault_rows
nothing_entries = refl

pub plus_entries : (v w : fault_matrices.Value) → fault_matrices.plus v w ≡ matrix (λ i j. counts.plus (entry_at v i j) (entry_at w i j))
unfolding entry_at matrix fault_matrices fault_rows
plus_entries v w = refl

-- the entries of a product are those of `product_entry`
pub times_entries : (v w : fault_matrices.Value) → fault_matrices.times v w ≡ matrix (product_entry (entry_at v) (entry_at w))
unfolding entry_at matrix fault_matrices fault_rows product_entry row_product product_at
times_entries v w = table_same 17 _ _ (λ i row.
    sum_table 16 counts (λ a. fault_rows.times (at fault_rows 17 v a) (at fault_rows 17 w (i - a))) (range_with_len 0 (suc i))
    ∙ table_same 16 _ _ (λ j column. ap (λ f. sum counts f (range_with_len 0 (suc i))) (fun_ext (λ a. at_table counts 16 _ j column))))

pub unit_powers : fault_matrices.unit ≡ powers 0 0
unfolding powers fault_matrices fault_rows
unit_powers = refl

-- a power has one entry that is not zero
pub powers_entries : (r c : ℕ) → powers r c ≡ matrix (λ i j. cond (i == r && j == c) counts.unit counts.nothing)
unfolding powers matrix fault_matrices fault_rows
powers_entries r c = table_same 17 _ _ (λ i row.
    elim (i == r) as (λ b. cond b (power counts 16 c counts.unit) (polynomials 16 counts).nothing ≡ table 16 (λ j. cond (b && j == c) counts.unit counts.nothing))
    [ true ↦ refl | false ↦ refl ])

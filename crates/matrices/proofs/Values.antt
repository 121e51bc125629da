-- What the entries of a matrix stand for, as they are added, multiplied and filled in.
use Rattle.std.proofs.Common.{◌≡◌, ℕ, zero, suc, ◌+◌, ◌-◌, ◌*◌, ◌/◌, ◌%◌, ◌^◌, ◌<◌, ◌≤◌, false, cond, ◌&&◌, eqb, List, length, get_or, set, replicate, sym, refl, ap, ◌∙◌, ap₂, inl, inr, mod-eq_of_lt, arith, lit<, w64, Fits, subst}
use Rattle.algebra.specs.Sums.{sum}
use Rattle.algebra.proofs.Steps.{sum_next}
use Rattle.matrices.specs.FaultMatrices.{fault_matrices, entry_at, matrix, powers, product_entry, row_product}
use Rattle.matrices.specs.Values.{residue, entry_in, matrix_of}
use Rattle.matrices.specs.FaultMatricesLemmas.{entry_matrix, matrix_same, nothing_entries, plus_entries, times_entries, powers_entries}
use Rattle.scales.specs.Counts.{count_limit, counts}
use Rattle.scales.specs.RemaindersLemmas.{plus_from, times_from}
use Rattle.std.proofs.lemmas.List.{get_or-replicate, get_or-set_other, get_or-set_same, length-replicate}
use Rattle.std.proofs.lemmas.Bool.{and_from, cases_eq, cond-false, cond-true, eq-eqb}
use Rattle.std.proofs.lemmas.Bool.Decides.{nat_tests}
use Rattle.std.specs.List.{range_with_len}
use Rattle.std.specs.Array.{IsFromFnResultFrom}
use denote.Param.Members.{Mut, Called}

pub residue_plus : (a b : ℕ) → residue ((a + b) % 2 ^ 64) ≡ counts.plus (residue a) (residue b)
unfolding residue
residue_plus a b = plus_from count_limit (lit< tt) a b refl

pub residue_times : (a b : ℕ) → residue ((a * b) % 2 ^ 64) ≡ counts.times (residue a) (residue b)
unfolding residue
residue_times a b = times_from count_limit (lit< tt) a b refl

pub residue_number : (n : ℕ) → Fits w64 n → (residue n).number ≡ n
unfolding residue
residue_number n fits = mod-eq_of_lt fits.fits

-- the total of the first n summands
abbrev pub Summed : (ℕ → counts.Value) → ℕ → ℕ → Type 0
Summed f n total = residue total ≡ sum counts f (range_with_len 0 n)

pub summed_none : (f : ℕ → counts.Value) → Summed f 0 0
unfolding residue
summed_none f = refl

pub summed_more : (f : ℕ → counts.Value) (n total x : ℕ) → Summed f n total → residue x ≡ f n → Summed f (n + 1) ((total + x) % 2 ^ 64)
summed_more f n total x so_far same =
    residue_plus total x ∙ ap₂ counts.plus so_far same ∙ sym (sum_next counts f n)

-- an entry that is read
pub entry_read : (ns : List ℕ) (i j : ℕ) → i < 17 → j < 16 → residue (get_or ns (16 * i + j) 0) ≡ entry_at (matrix_of ns) i j
unfolding matrix_of
entry_read ns i j row column = sym (entry_matrix (entry_in ns) i j row column)

-- the same, by its place
pub entry_place : (ns : List ℕ) (p : ℕ) → p < 272 → residue (get_or ns p 0) ≡ entry_at (matrix_of ns) (p / 16) (p % 16)
entry_place ns p within =
    let place : p ≡ 16 * (p / 16) + p % 16 = omega arith in
    ap (λ q. residue (get_or ns q 0)) place ∙ entry_read ns (p / 16) (p % 16) (omega arith) (omega arith)

-- the number of an entry
pub entry_number : (ns : List ℕ) (p i j : ℕ) → i < 17 → j < 16 → p ≡ 16 * i + j → Fits w64 (get_or ns p 0) → get_or ns p 0 ≡ (entry_at (matrix_of ns) i j).number
entry_number ns p i j row column here fits =
    sym (residue_number (get_or ns p 0) fits) ∙ ap (λ v. v.number) (ap (λ q. residue (get_or ns q 0)) here ∙ entry_read ns i j row column)

-- entries that stand for f, place by place
pub filled : (f : ℕ → ℕ → counts.Value) (ns : List ℕ) → ((p : ℕ) → p < 272 → residue (get_or ns p 0) ≡ f (p / 16) (p % 16)) → matrix_of ns ≡ matrix f
unfolding matrix_of
filled f ns each = matrix_same (entry_in ns) f (λ i j row column.
    let at_row : (16 * i + j) / 16 ≡ i = omega arith in
    let at_column : (16 * i + j) % 16 ≡ j = omega arith in
    each (16 * i + j) (omega arith) ∙ ap₂ f at_row at_column)

pub zeros_value : matrix_of (replicate 272 0) ≡ fault_matrices.nothing
unfolding residue
zeros_value = filled (λ i j. counts.nothing) (replicate 272 0) (λ p h. ap residue (get_or-replicate 272 p 0 0 h)) ∙ sym nothing_entries

-- what a closure gave at each index, where no call changes it
module _ {F : Type 0} (g : Mut F (ℕ × Unit {0}) ℕ) (f : F) (P : ℕ → ℕ → Type 0) (call : (i y : ℕ) (q : F) → Called g f (i, tt) y q → (q ≡ f) × P i y) where
  pub given : (ys : List ℕ) (i n : ℕ) → IsFromFnResultFrom g f ys i n → (j : ℕ) → i ≤ j → j < i + n → P j (get_or ys j 0)
  given ys i zero calls j low high = absurd (omega arith)
  given ys i (suc n) (q, y, element, called, rest) j low high = elim (cases_eq i j) [
    | inl here ↦ subst (λ k. P k (get_or ys k 0)) here (subst (P i) (sym (element.1 0)) (call i y q called).1)
    | inr later ↦ given ys (i + 1) n (subst (λ p. IsFromFnResultFrom g p ys (i + 1) n) (call i y q called).0 rest) j (omega arith) (omega arith)
  ]

-- one among zeros
one_entry : (row column i j : ℕ) → row < 17 → column < 16 → i < 17 → j < 16 → residue (get_or (set (replicate 272 0) (16 * row + column) 1) (16 * i + j) 0) ≡ cond (eqb i row && eqb j column) counts.unit counts.nothing
unfolding residue
one_entry row column i j row_within column_within i_within j_within = elim (cases_eq (16 * i + j) (16 * row + column)) [
  | inl same ↦
      let long : length (replicate {A = ℕ} 272 0) ≡ 272 = length-replicate {A = ℕ} 272 0 in
      let i_same : i ≡ row = omega arith in
      let j_same : j ≡ column = omega arith in
      ap (λ p. residue (get_or (set (replicate 272 0) (16 * row + column) 1) p 0)) same
      ∙ ap residue (get_or-set_same (replicate 272 0) (16 * row + column) 1 0 (omega arith))
      ∙ sym (cond-true _ _ _ (and_from _ _ (eq-eqb i row i_same) (eq-eqb j column j_same)))
  | inr other ↦
      let not_both : (eqb i row && eqb j column) ≡ false = grind (arith, nat_tests) in
      ap residue (get_or-set_other (replicate 272 0) (16 * row + column) (16 * i + j) 1 0 other ∙ get_or-replicate 272 (16 * i + j) 0 0 (omega arith))
      ∙ sym (cond-false _ _ _ not_both)
]

pub one_value : (p row column : ℕ) → row < 17 → column < 16 → p ≡ 16 * row + column → matrix_of (set (replicate 272 0) p 1) ≡ powers row column
unfolding matrix_of
one_value p row column row_within column_within here =
    ap (λ q. matrix_of (set (replicate 272 0) q 1)) here
    ∙ matrix_same _ _ (λ i j i_within j_within. one_entry row column i j row_within column_within i_within j_within)
    ∙ sym (powers_entries row column)

-- what plus and times fill in, and what times adds up
abbrev pub sum_entry : List ℕ → List ℕ → ℕ → ℕ → counts.Value
sum_entry xs ys i j = counts.plus (entry_at (matrix_of xs) i j) (entry_at (matrix_of ys) i j)

abbrev pub times_entry : List ℕ → List ℕ → ℕ → ℕ → counts.Value
times_entry xs ys = product_entry (entry_at (matrix_of xs)) (entry_at (matrix_of ys))

abbrev pub times_row : List ℕ → List ℕ → ℕ → ℕ → ℕ → counts.Value
times_row xs ys = row_product (entry_at (matrix_of xs)) (entry_at (matrix_of ys))

abbrev pub times_term : List ℕ → List ℕ → ℕ → ℕ → ℕ → ℕ → counts.Value
times_term xs ys i j a b = counts.times (entry_at (matrix_of xs) a b) (entry_at (matrix_of ys) (i - a) (j - b))

pub plus_value : (xs ys ns : List ℕ) → ((p : ℕ) → p < 272 → get_or ns p 0 ≡ (get_or xs p 0 + get_or ys p 0) % 2 ^ 64) → matrix_of ns ≡ fault_matrices.plus (matrix_of xs) (matrix_of ys)
plus_value xs ys ns each =
    filled (sum_entry xs ys) ns (λ p h. ap residue (each p h) ∙ residue_plus _ _ ∙ ap₂ counts.plus (entry_place xs p h) (entry_place ys p h))
    ∙ sym (plus_entries (matrix_of xs) (matrix_of ys))

pub times_value : (xs ys ns : List ℕ) → ((p : ℕ) → p < 272 → residue (get_or ns p 0) ≡ times_entry xs ys (p / 16) (p % 16)) → matrix_of ns ≡ fault_matrices.times (matrix_of xs) (matrix_of ys)
times_value xs ys ns each = filled _ ns each ∙ sym (times_entries (matrix_of xs) (matrix_of ys))

-- a row that times goes through: one term more, and all of them
pub row_more : (xs ys : List ℕ) (i j a b total : ℕ) → i < 17 → j < 16 → a ≤ i → b ≤ j → Summed (times_term xs ys i j a) b total
    → Summed (times_term xs ys i j a) (b + 1) ((total + get_or xs (16 * a + b) 0 * get_or ys (16 * (i - a) + (j - b)) 0 % 2 ^ 64) % 2 ^ 64)
row_more xs ys i j a b total row column a_within b_within so_far =
    summed_more (times_term xs ys i j a) b total _ so_far
    (residue_times _ _ ∙ ap₂ counts.times (entry_read xs a b (omega arith) (omega arith)) (entry_read ys (i - a) (j - b) (omega arith) (omega arith)))

pub row_value : (xs ys : List ℕ) (i j a n total : ℕ) → n ≡ j + 1 → Summed (times_term xs ys i j a) n total → residue total ≡ times_row xs ys i j a
unfolding row_product
row_value xs ys i j a n total all summed =
    let last : n ≡ suc j = omega arith in
    summed ∙ ap (λ m. sum counts (times_term xs ys i j a) (range_with_len 0 m)) last

pub entry_value : (xs ys : List ℕ) (i j n total : ℕ) → n ≡ i + 1 → Summed (times_row xs ys i j) n total → residue total ≡ times_entry xs ys i j
unfolding product_entry
entry_value xs ys i j n total all summed =
    let last : n ≡ suc i = omega arith in
    summed ∙ ap (λ m. sum counts (times_row xs ys i j) (range_with_len 0 m)) last

-- Sums and products over lists that grow at the end. No law is used.
use Rattle.std.proofs.Common.{◌≡◌, ℕ, ◌+◌, List, [], ◌∷◌, ◌++◌, sym, refl, ap, ◌∙◌, map-id, arith}
use Rattle.std.specs.List.{range_with_len}
use Rattle.std.proofs.lemmas.List.FromFn.{map-range_with_len_more}
use Rattle.algebra.specs.Laws.{Kind}
use Rattle.algebra.specs.Sums.{product_on, sum, sum_on}

module _ (k : Kind) {X : Type 0} (f : X → k.Value) where
  pub product_append : (acc : k.Value) (xs ys : List X) → product_on k f acc (xs ++ ys) ≡ product_on k f (product_on k f acc xs) ys
  product_append acc [] ys = refl
  product_append acc (x ∷ xs) ys = product_append (k.times acc (f x)) xs ys

  pub sum_append : (acc : k.Value) (xs ys : List X) → sum_on k f acc (xs ++ ys) ≡ sum_on k f (sum_on k f acc xs) ys
  sum_append acc [] ys = refl
  sum_append acc (x ∷ xs) ys = sum_append (k.plus acc (f x)) xs ys

counting_next : (n : ℕ) → range_with_len 0 (n + 1) ≡ range_with_len 0 n ++ (n ∷ [])
counting_next n =
    let e : 0 + n ≡ n = omega arith in
    sym (map-id (range_with_len 0 (n + 1))) ∙ map-range_with_len_more (λ x. x) 0 n n e ∙ ap (λ xs. xs ++ (n ∷ [])) (map-id (range_with_len 0 n))

-- one summand more
pub sum_next : (k : Kind) (f : ℕ → k.Value) (n : ℕ) → sum k f (range_with_len 0 (n + 1)) ≡ k.plus (sum k f (range_with_len 0 n)) (f n)
sum_next k f n = ap (sum k f) (counting_next n) ∙ sum_append k f k.nothing (range_with_len 0 n) (n ∷ [])

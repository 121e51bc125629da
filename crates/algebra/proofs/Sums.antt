-- Sums and products over lists under the laws: each lemma on folding is said once, and serves both.
use Rattle.std.proofs.Common.{◌≡◌, Bool, true, false, cond, not, List, [], ◌∷◌, ◌++◌, map, filter, sym, refl, ap, ◌∙◌, ap₂}
use Rattle.std.specs.List.{flat_map, AllByRecursion as All}
use Rattle.algebra.specs.Laws.{Kind, Laws}
use Rattle.algebra.specs.Sums.{product, product_on, sum, sum_on}

-- a way to fold the values of a list's elements into one, by an operation whose order does not matter
pub record Folds {V : Type 0} (op : V → V → V) (empty : V) (fold : (X : Type 0) → (X → V) → List X → V) : Type 1 where
  pub assoc : (x y z : V) → op (op x y) z ≡ op x (op y z)
  pub comm : (x y : V) → op x y ≡ op y x
  pub left : (x : V) → op empty x ≡ x
  pub nil : {X : Type 0} (f : X → V) → fold X f [] ≡ empty
  pub cons : {X : Type 0} (f : X → V) (x : X) (xs : List X) → fold X f (x ∷ xs) ≡ op (f x) (fold X f xs)

module _ {V : Type 0} {op : V → V → V} {empty : V} {fold : (X : Type 0) → (X → V) → List X → V} (F : Folds op empty fold) where
  pub op_empty : (x : V) → op x empty ≡ x
  op_empty x = F.comm x empty ∙ F.left x

  -- the first two of three change places
  pub op_swap : (x y z : V) → op x (op y z) ≡ op y (op x z)
  op_swap x y z = sym (F.assoc x y z) ∙ ap (λ a. op a z) (F.comm x y) ∙ F.assoc y x z

  -- the middle two of four change places
  pub op_middle : (a b c d : V) → op (op a b) (op c d) ≡ op (op a c) (op b d)
  op_middle a b c d = F.assoc a b (op c d) ∙ ap (op a) (op_swap b c d) ∙ sym (F.assoc a c (op b d))

  module _ {X : Type 0} where
    pub fold_one : (f : X → V) (x : X) → fold X f (x ∷ []) ≡ f x
    fold_one f x = F.cons f x [] ∙ ap (op (f x)) (F.nil f) ∙ op_empty (f x)

    pub fold_append : (f : X → V) (xs ys : List X) → fold X f (xs ++ ys) ≡ op (fold X f xs) (fold X f ys)
    fold_append f [] ys = sym (ap (λ a. op a (fold X f ys)) (F.nil f) ∙ F.left (fold X f ys))
    fold_append f (x ∷ xs) ys =
        F.cons f x (xs ++ ys) ∙ ap (op (f x)) (fold_append f xs ys) ∙ sym (F.assoc (f x) (fold X f xs) (fold X f ys))
        ∙ ap (λ a. op a (fold X f ys)) (sym (F.cons f x xs))

    -- functions that agree on the elements
    pub fold_same_on : (f g : X → V) (xs : List X) → All (λ x. f x ≡ g x) xs → fold X f xs ≡ fold X g xs
    fold_same_on f g [] h = F.nil f ∙ sym (F.nil g)
    fold_same_on f g (x ∷ xs) h = F.cons f x xs ∙ ap₂ op h.0 (fold_same_on f g xs h.1) ∙ sym (F.cons g x xs)

    pub fold_same : (f g : X → V) (xs : List X) → ((x : X) → f x ≡ g x) → fold X f xs ≡ fold X g xs
    fold_same f g xs h = λ i. fold X (λ x. h x i) xs

    pub fold_empties : (f : X → V) (xs : List X) → All (λ x. f x ≡ empty) xs → fold X f xs ≡ empty
    fold_empties f [] h = F.nil f
    fold_empties f (x ∷ xs) h = F.cons f x xs ∙ ap₂ op h.0 (fold_empties f xs h.1) ∙ F.left empty

    pub fold_empty : (xs : List X) → fold X (λ (x : X). empty) xs ≡ empty
    fold_empty [] = F.nil (λ (x : X). empty)
    fold_empty (x ∷ xs) = F.cons (λ (y : X). empty) x xs ∙ F.left _ ∙ fold_empty xs

    pub fold_op : (f g : X → V) (xs : List X) → fold X (λ x. op (f x) (g x)) xs ≡ op (fold X f xs) (fold X g xs)
    fold_op f g [] = F.nil (λ x. op (f x) (g x)) ∙ sym (ap₂ op (F.nil f) (F.nil g) ∙ F.left empty)
    fold_op f g (x ∷ xs) =
        F.cons (λ y. op (f y) (g y)) x xs ∙ ap (op (op (f x) (g x))) (fold_op f g xs) ∙ op_middle (f x) (g x) (fold X f xs) (fold X g xs)
        ∙ sym (ap₂ op (F.cons f x xs) (F.cons g x xs))

    -- those that pass a test, by way of all
    pub fold_kept : (f : X → V) (p : X → Bool) (xs : List X) → fold X f (filter p xs) ≡ fold X (λ x. cond (p x) (f x) empty) xs
    fold_kept f p [] = F.nil f ∙ sym (F.nil (λ x. cond (p x) (f x) empty))
    fold_kept f p (x ∷ xs) = one (p x) ∙ ap (op (cond (p x) (f x) empty)) (fold_kept f p xs) ∙ sym (F.cons (λ y. cond (p y) (f y) empty) x xs)
      where
        one : (b : Bool) → fold X f (cond b (x ∷ filter p xs) (filter p xs)) ≡ op (cond b (f x) empty) (fold X f (filter p xs))
        one true = F.cons f x (filter p xs)
        one false = sym (F.left (fold X f (filter p xs)))

    -- those that pass a test, and those that do not
    pub fold_split : (f : X → V) (p : X → Bool) (xs : List X) → fold X f xs ≡ op (fold X f (filter p xs)) (fold X f (filter (λ x. not (p x)) xs))
    fold_split f p xs =
        fold_same f (λ x. op (cond (p x) (f x) empty) (cond (not (p x)) (f x) empty)) xs (λ x. one (p x) (f x))
        ∙ fold_op (λ x. cond (p x) (f x) empty) (λ x. cond (not (p x)) (f x) empty) xs
        ∙ sym (ap₂ op (fold_kept f p xs) (fold_kept f (λ x. not (p x)) xs))
      where
        one : (b : Bool) (v : V) → v ≡ op (cond b v empty) (cond (not b) v empty)
        one true v = sym (op_empty v)
        one false v = sym (F.left v)

  module _ {X Y : Type 0} where
    pub fold_map : (f : Y → V) (g : X → Y) (xs : List X) → fold Y f (map g xs) ≡ fold X (λ x. f (g x)) xs
    fold_map f g [] = F.nil f ∙ sym (F.nil (λ x. f (g x)))
    fold_map f g (x ∷ xs) = F.cons f (g x) (map g xs) ∙ ap (op (f (g x))) (fold_map f g xs) ∙ sym (F.cons (λ y. f (g y)) x xs)

    pub fold_joined : (f : Y → V) (g : X → List Y) (xs : List X) → fold Y f (flat_map g xs) ≡ fold X (λ x. fold Y f (g x)) xs
    fold_joined f g [] = F.nil f ∙ sym (F.nil (λ x. fold Y f (g x)))
    fold_joined f g (x ∷ xs) =
        fold_append f (g x) (flat_map g xs) ∙ ap (op (fold Y f (g x))) (fold_joined f g xs) ∙ sym (F.cons (λ y. fold Y f (g y)) x xs)

    -- a fold of folds, the other way round
    pub fold_swap : (f : X → Y → V) (xs : List X) (ys : List Y) → fold X (λ x. fold Y (f x) ys) xs ≡ fold Y (λ y. fold X (λ x. f x y) xs) ys
    fold_swap f [] ys =
        F.nil (λ x. fold Y (f x) ys) ∙ sym (fold_same (λ y. fold X (λ x. f x y) []) (λ y. empty) ys (λ y. F.nil (λ x. f x y)) ∙ fold_empty ys)
    fold_swap f (x ∷ xs) ys =
        F.cons (λ a. fold Y (f a) ys) x xs ∙ ap (op (fold Y (f x) ys)) (fold_swap f xs ys) ∙ sym (fold_op (f x) (λ y. fold X (λ a. f a y) xs) ys)
        ∙ fold_same (λ y. op (f x y) (fold X (λ a. f a y) xs)) (λ y. fold X (λ a. f a y) (x ∷ xs)) ys (λ y. sym (F.cons (λ a. f a y) x xs))

module _ (k : Kind) (laws : Laws k) where
  sum_from : {X : Type 0} (f : X → k.Value) (acc : k.Value) (xs : List X) → sum_on k f acc xs ≡ k.plus acc (sum k f xs)
  sum_from f acc [] = sym (laws.plus_comm acc k.nothing ∙ laws.plus_nothing acc)
  sum_from f acc (x ∷ xs) =
      sum_from f (k.plus acc (f x)) xs ∙ laws.plus_assoc acc (f x) (sum k f xs)
      ∙ ap (k.plus acc) (sym (sum_from f (k.plus k.nothing (f x)) xs ∙ ap (λ a. k.plus a (sum k f xs)) (laws.plus_nothing (f x))))

  product_from : {X : Type 0} (f : X → k.Value) (acc : k.Value) (xs : List X) → product_on k f acc xs ≡ k.times acc (product k f xs)
  product_from f acc [] = sym (laws.times_comm acc k.unit ∙ laws.times_unit acc)
  product_from f acc (x ∷ xs) =
      product_from f (k.times acc (f x)) xs ∙ laws.times_assoc acc (f x) (product k f xs)
      ∙ ap (k.times acc) (sym (product_from f (k.times k.unit (f x)) xs ∙ ap (λ a. k.times a (product k f xs)) (laws.times_unit (f x))))

  -- all of the above for sums, and for products
  pub sums : Folds k.plus k.nothing (λ X. sum k {X = X})
  sums =
      record {
        assoc = laws.plus_assoc;
        comm = laws.plus_comm;
        left = laws.plus_nothing;
        nil = λ f. refl;
        cons = λ f x xs. sum_from f (k.plus k.nothing (f x)) xs ∙ ap (λ a. k.plus a (sum k f xs)) (laws.plus_nothing (f x));
      }

  pub products : Folds k.times k.unit (λ X. product k {X = X})
  products =
      record {
        assoc = laws.times_assoc;
        comm = laws.times_comm;
        left = laws.times_unit;
        nil = λ f. refl;
        cons = λ f x xs. product_from f (k.times k.unit (f x)) xs ∙ ap (λ a. k.times a (product k f xs)) (laws.times_unit (f x));
      }

  pub nothing_right : (x : k.Value) → k.times x k.nothing ≡ k.nothing
  nothing_right x = laws.times_comm x k.nothing ∙ laws.times_nothing x

  pub distributes_right : (x y z : k.Value) → k.times (k.plus x y) z ≡ k.plus (k.times x z) (k.times y z)
  distributes_right x y z =
      laws.times_comm (k.plus x y) z ∙ laws.distributes z x y ∙ ap₂ k.plus (laws.times_comm z x) (laws.times_comm z y)

  module _ {X : Type 0} where
    -- a constant factor of a sum, on the left and on the right
    pub times_sum : (c : k.Value) (f : X → k.Value) (xs : List X) → k.times c (sum k f xs) ≡ sum k (λ x. k.times c (f x)) xs
    times_sum c f [] = nothing_right c
    times_sum c f (x ∷ xs) =
        ap (k.times c) (sums.cons f x xs) ∙ laws.distributes c (f x) (sum k f xs) ∙ ap (k.plus (k.times c (f x))) (times_sum c f xs)
        ∙ sym (sums.cons (λ y. k.times c (f y)) x xs)

    pub sum_times : (f : X → k.Value) (c : k.Value) (xs : List X) → k.times (sum k f xs) c ≡ sum k (λ x. k.times (f x) c) xs
    sum_times f c xs =
        laws.times_comm (sum k f xs) c ∙ times_sum c f xs
        ∙ fold_same sums (λ x. k.times c (f x)) (λ x. k.times (f x) c) xs (λ x. laws.times_comm c (f x))

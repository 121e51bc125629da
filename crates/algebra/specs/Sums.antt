-- Sums and products over lists, taken from the left.
use Rattle.std.specs.Prelude.{List, [], ◌∷◌}
use Rattle.algebra.specs.Laws.{Kind}

module _ (k : Kind) {X : Type 0} (f : X → k.Value) where
  -- what stands already, and then each element's value in turn
  abbrev pub sum_on : k.Value → List X → k.Value
  sum_on acc [] = acc
  sum_on acc (x ∷ xs) = sum_on (k.plus acc (f x)) xs

  abbrev pub product_on : k.Value → List X → k.Value
  product_on acc [] = acc
  product_on acc (x ∷ xs) = product_on (k.times acc (f x)) xs

  -- the sum of the elements' values, nothing where there are none
  abbrev pub sum : List X → k.Value
  sum xs = sum_on k.nothing xs

  -- the product of the elements' values, unit where there are none
  abbrev pub product : List X → k.Value
  product xs = product_on k.unit xs

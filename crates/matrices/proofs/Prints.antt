-- The print of a matrix, number by number: its length, and what stands in the buffer.
use Rattle.std.proofs.Common.{◌≡◌, ℕ, zero, suc, ◌+◌, ◌*◌, ◌/◌, ◌%◌, ◌<◌, ◌≤◌, ltb, List, [], ◌∷◌, ◌++◌, map, length, get_or, take, drop, Some, None, Ok, Err, decimal, Option, unwrap_or, sym, refl, ap, ◌∙◌, ap₂, arith, w64, Fits}
use Rattle.algebra.specs.Prints.{printed_end}
use Rattle.matrices.specs.FaultMatrices.{fault_matrices, entry_at, numbers, spaced, matrix_print}
use Rattle.matrices.specs.Values.{matrix_of}
use Rattle.matrices.proofs.Values.{entry_place, residue_number}
use Rattle.refusals.specs.Refusals.{answered}
use Rattle.refusals.specs.declared.Refusal.TheVariants.{BufferTooShort}
use Rattle.std.proofs.lemmas.List.FromFn.{get_or-map-range_with_len, length-map-range_with_len}
use Rattle.std.proofs.lemmas.List.{append-nil, flat_map_more, get_or-drop, get_or-take, length-append, length-take-le, map-append, same_lists, take_all, take_more}
use Rattle.std.proofs.lemmas.Bool.{cond-false, cond-true, le-ltb, lt-ltb}
use Rattle.std.specs.List.{range_with_len, flat_map}
use Rattle.text.specs.Placed.{after_write, end_of, placed}
use Rattle.text.proofs.Writes.{after_write_fits, end_of_fits, length_placed, placed_placed}

counting_append : (a m n : ℕ) → range_with_len a (m + n) ≡ range_with_len a m ++ range_with_len (a + m) n
counting_append a zero n =
    let none : 0 + n ≡ n = omega arith in
    let here : a + 0 ≡ a = omega arith in
    ap (range_with_len a) none ∙ ap (λ b. range_with_len b n) (sym here)
counting_append a (suc m) n =
    let more : suc m + n ≡ suc (m + n) = omega arith in
    let here : a + 1 + m ≡ a + suc m = omega arith in
    ap (range_with_len a) more ∙ ap (λ xs. a ∷ xs) (counting_append (a + 1) m n ∙ ap (λ b. range_with_len (a + 1) m ++ range_with_len b n) here)

-- rows of 16, one after another
module _ {X : Type 0} (f : ℕ → ℕ → X) where
  row_flat : (i : ℕ) → map (f i) (range_with_len 0 16) ≡ map (λ p. f (p / 16) (p % 16)) (range_with_len (16 * i) 16)
  row_flat i = same_lists _ _ (length-map-range_with_len (f i) 0 16 ∙ sym (length-map-range_with_len (λ p. f (p / 16) (p % 16)) (16 * i) 16)) (λ j d h.
      let within : j < 16 = omega (arith, length-map-range_with_len (f i) 0 16) in
      let here : 0 + j ≡ j = omega arith in
      let row : i ≡ (16 * i + j) / 16 = omega arith in
      let column : j ≡ (16 * i + j) % 16 = omega arith in
      get_or-map-range_with_len (f i) 0 16 j j d within here
      ∙ ap₂ f row column
      ∙ sym (get_or-map-range_with_len (λ p. f (p / 16) (p % 16)) (16 * i) 16 j (16 * i + j) d within refl))

  rows_flat : (i n : ℕ) → flat_map (λ i. map (f i) (range_with_len 0 16)) (range_with_len i n) ≡ map (λ p. f (p / 16) (p % 16)) (range_with_len (16 * i) (16 * n))
  rows_flat i zero = refl
  rows_flat i (suc n) =
      let next : 16 * (i + 1) ≡ 16 * i + 16 = omega arith in
      let more : 16 + 16 * n ≡ 16 * suc n = omega arith in
      ap₂ ◌++◌ (row_flat i) (rows_flat (i + 1) n ∙ ap (λ a. map (λ p. f (p / 16) (p % 16)) (range_with_len a (16 * n))) next)
      ∙ sym (map-append (λ p. f (p / 16) (p % 16)) (range_with_len (16 * i) 16) (range_with_len (16 * i + 16) (16 * n)))
      ∙ ap (map (λ p. f (p / 16) (p % 16))) (sym (counting_append (16 * i) 16 (16 * n)) ∙ ap (range_with_len (16 * i)) more)

numbers_flat : (v : fault_matrices.Value) → numbers v ≡ map (λ p. (entry_at v (p / 16) (p % 16)).number) (range_with_len 0 272)
unfolding numbers
numbers_flat v = rows_flat (λ i j. (entry_at v i j).number) 0 17

pub length_numbers : (v : fault_matrices.Value) → length (numbers v) ≡ 272
length_numbers v = ap length (numbers_flat v) ∙ length-map-range_with_len (λ p. (entry_at v (p / 16) (p % 16)).number) 0 272

-- an entry that is read is the number that is printed
pub number_read : (ns : List ℕ) (p : ℕ) → p < 272 → Fits w64 (get_or ns p 0) → get_or (numbers (matrix_of ns)) p 0 ≡ get_or ns p 0
number_read ns p within fits =
    let here : 0 + p ≡ p = omega arith in
    ap (λ xs. get_or xs p 0) (numbers_flat (matrix_of ns))
    ∙ get_or-map-range_with_len (λ p. (entry_at (matrix_of ns) (p / 16) (p % 16)).number) 0 272 p p 0 within here
    ∙ ap (λ v. v.number) (sym (entry_place ns p within))
    ∙ residue_number (get_or ns p 0) fits

spaced_push : (ns : List ℕ) (n : ℕ) → 1 ≤ length ns → spaced (ns ++ (n ∷ [])) ≡ spaced ns ++ (32 ∷ decimal n)
unfolding spaced
spaced_push [] n some = absurd (omega arith)
spaced_push (m ∷ ms) n some = sym (flat_map_more (λ k. 32 ∷ decimal k) (decimal m) ms n)

joined_take_le : (f : ℕ → List ℕ) (n : ℕ) (ns : List ℕ) → length (flat_map f (take n ns)) ≤ length (flat_map f ns)
joined_take_le f zero ns = omega arith
joined_take_le f (suc n) [] = omega arith
joined_take_le f (suc n) (m ∷ ms) =
    omega (arith, joined_take_le f n ms, length-append (f m) (flat_map f (take n ms)), length-append (f m) (flat_map f ms))

spaced_take_le : (n : ℕ) (ns : List ℕ) → length (spaced (take n ns)) ≤ length (spaced ns)
unfolding spaced
spaced_take_le zero ns = omega arith
spaced_take_le (suc n) [] = omega arith
spaced_take_le (suc n) (m ∷ ms) =
    let each : ℕ → List ℕ = λ k. 32 ∷ decimal k in
    omega (arith, joined_take_le each n ms, length-append (decimal m) (flat_map each (take n ms)), length-append (decimal m) (flat_map each ms))

spaced_first : (ns : List ℕ) → 1 ≤ length ns → spaced (take 1 ns) ≡ decimal (get_or ns 0 0)
unfolding spaced
spaced_first [] some = absurd (omega arith)
spaced_first (n ∷ ns) some = append-nil (decimal n)

spaced_more : (ns : List ℕ) (i : ℕ) → 1 ≤ i → i < length ns → spaced (take (i + 1) ns) ≡ spaced (take i ns) ++ (32 ∷ decimal (get_or ns i 0))
spaced_more ns i some within =
    let front : length (take i ns) ≡ i = length-take-le i ns (omega arith) in
    ap spaced (take_more ns i 0 within) ∙ spaced_push (take i ns) (get_or ns i 0) (omega arith)

-- the numbers behind the first
pub rest_number : (ns : List ℕ) (i : ℕ) → i < 271 → get_or (take 271 (drop 1 ns)) i 0 ≡ get_or ns (i + 1) 0
rest_number ns i within =
    let next : 1 + i ≡ i + 1 = omega arith in
    get_or-take 271 (drop 1 ns) i 0 within ∙ get_or-drop 1 ns i 0 ∙ ap (λ p. get_or ns p 0) next

-- the fronts of a print: the first i numbers
module _ (entries : List ℕ) where
  abbrev pub front : ℕ → List ℕ
  front i = spaced (take i (numbers (matrix_of entries)))

  pub front_first : Fits w64 (get_or entries 0 0) → front 1 ≡ decimal (get_or entries 0 0)
  front_first fits =
      spaced_first (numbers (matrix_of entries)) (omega (arith, length_numbers (matrix_of entries)))
      ∙ ap decimal (number_read entries 0 (omega arith) fits)

  pub front_more : (i : ℕ) → 1 ≤ i → i < 272 → Fits w64 (get_or entries i 0) → front (i + 1) ≡ front i ++ (32 ∷ decimal (get_or entries i 0))
  front_more i some within fits =
      spaced_more (numbers (matrix_of entries)) i some (omega (arith, length_numbers (matrix_of entries)))
      ∙ ap (λ n. front i ++ (32 ∷ decimal n)) (number_read entries i within fits)

  pub length_front_more : (i : ℕ) → 1 ≤ i → i < 272 → Fits w64 (get_or entries i 0) → length (front (i + 1)) ≡ length (front i) + length (32 ∷ decimal (get_or entries i 0))
  length_front_more i some within fits =
      ap length (front_more i some within fits) ∙ length-append (front i) (32 ∷ decimal (get_or entries i 0))

  pub front_all : (i : ℕ) → 272 ≤ i → front i ≡ matrix_print (matrix_of entries)
  front_all i all = ap spaced (take_all i (numbers (matrix_of entries)) (omega (arith, length_numbers (matrix_of entries))))

  -- the length so far, which is small
  abbrev pub Measured : ℕ → ℕ → Type 0
  Measured i len = (len ≡ length (front i)) × (len ≤ 21 * i)

  pub measured_first : (len : ℕ) → Fits w64 (get_or entries 0 0) → len ≡ length (decimal (get_or entries 0 0)) → len ≤ 20 → Measured 1 len
  measured_first len fits same few = (same ∙ sym (ap length (front_first fits)), omega arith)

  pub measured_more : (i len digits : ℕ) → 1 ≤ i → i < 272 → Fits w64 (get_or entries i 0) → Measured i len → digits ≡ length (decimal (get_or entries i 0)) → digits ≤ 20 → Measured (i + 1) (len + (1 + digits))
  measured_more i len digits some within fits so_far same few =
      (omega (arith, so_far.0, length_front_more i some within fits), omega (arith, so_far.1))

  -- the first number has room, and each that follows
  pub room_first : (size : ℕ) → Fits w64 (get_or entries 0 0) → length (matrix_print (matrix_of entries)) ≤ size → 0 + length (decimal (get_or entries 0 0)) ≤ size
  room_first size fits room = omega (arith, ap length (front_first fits), spaced_take_le 1 (numbers (matrix_of entries)))

  pub room_more : (i size : ℕ) → 1 ≤ i → i < 272 → Fits w64 (get_or entries i 0) → length (matrix_print (matrix_of entries)) ≤ size → length (front i) + length (32 ∷ decimal (get_or entries i 0)) ≤ size
  room_more i size some within fits room =
      omega (arith, length_front_more i some within fits, spaced_take_le (i + 1) (numbers (matrix_of entries)))

  -- a front written at the start of the buffer b
  abbrev pub Printed : ℕ → List ℕ → List ℕ → Type 0
  Printed i b buffer = buffer ≡ placed 0 (front i) b

  pub printed_first : (b buffer : List ℕ) → Fits w64 (get_or entries 0 0) → length (matrix_print (matrix_of entries)) ≤ length b → buffer ≡ after_write 0 (decimal (get_or entries 0 0)) b → Printed 1 b buffer
  printed_first b buffer fits room written =
      written
      ∙ after_write_fits 0 (decimal (get_or entries 0 0)) b (room_first (length b) fits room)
      ∙ ap (λ t. placed 0 t b) (sym (front_first fits))

  pub printed_more : (i end : ℕ) (b buffer buffer' : List ℕ) → 1 ≤ i → i < 272 → Fits w64 (get_or entries i 0) → length (matrix_print (matrix_of entries)) ≤ length b → end ≡ length (front i) → Printed i b buffer → buffer' ≡ placed end (32 ∷ decimal (get_or entries i 0)) buffer → Printed (i + 1) b buffer'
  printed_more i end b buffer buffer' some within fits room ends so_far written =
      let next : List ℕ = 32 ∷ decimal (get_or entries i 0) in
      let here : end ≡ 0 + length (front i) = omega arith in
      let has_room : 0 + length (front i) + length next ≤ length b = omega (arith, room_more i (length b) some within fits room) in
      written
      ∙ ap₂ (λ at c. placed at next c) here so_far
      ∙ placed_placed 0 (front i) next b has_room
      ∙ ap (λ t. placed 0 t b) (sym (front_more i some within fits))

-- where a text with room ends
pub ends : (o : Option ℕ) (at otherwise : ℕ) (t buffer : List ℕ) → o ≡ end_of at t buffer → at + length t ≤ length buffer → unwrap_or o otherwise ≡ at + length t
ends o at otherwise t buffer same fits = ap (λ p. unwrap_or p otherwise) (same ∙ end_of_fits at t buffer fits)

-- a space, and then a number
pub after_space : (at start n : ℕ) (b buffer buffer' : List ℕ) → at + length (32 ∷ decimal n) ≤ length b → buffer ≡ after_write at (32 ∷ []) b → start ≡ at + 1 → buffer' ≡ after_write start (decimal n) buffer → buffer' ≡ placed at (32 ∷ decimal n) b
after_space at start n b buffer buffer' fits space starts number =
    let one : buffer ≡ placed at (32 ∷ []) b = space ∙ after_write_fits at (32 ∷ []) b (omega arith) in
    let long : length buffer ≡ length b = ap length one ∙ length_placed at (32 ∷ []) b (omega arith) in
    number
    ∙ after_write_fits start (decimal n) buffer (omega arith)
    ∙ ap₂ (λ s c. placed s (decimal n) c) starts one
    ∙ placed_placed at (32 ∷ []) (decimal n) b (omega arith)

-- the answer where a print has room, and where it has none
pub printed_fits : (t b : List ℕ) (end : ℕ) → length t ≤ length b → end ≡ length t → Ok end ≡ printed_end t b
printed_fits t b end fits same =
    ap Ok same ∙ sym (ap (λ o. answered o (length t)) (cond-false (ltb (length b) (length t)) (Some BufferTooShort) None (le-ltb (length b) (length t) fits)))

pub printed_full : (t b : List ℕ) → length b < length t → Err BufferTooShort ≡ printed_end t b
printed_full t b full =
    sym (ap (λ o. answered o (length t)) (cond-true (ltb (length b) (length t)) (Some BufferTooShort) None (lt-ltb (length b) (length t) full)))

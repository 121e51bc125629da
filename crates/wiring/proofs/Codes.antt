-- The codes of a trio table: how many there are, and what a write leaves.
use Rattle.std.proofs.Common.{◌≡◌, ℕ, zero, suc, ◌+◌, ◌<◌, ◌≤◌, List, [], ◌∷◌, ◌++◌, map, length, get_or, take, set, sym, refl, ap, ◌∙◌, ap₂, arith, length-take}
use lib.ListN.{length-map}
use Rattle.std.proofs.lemmas.List.{get_or-map, get_or-take, map_push, map-set, set_past, take_more_set}
use Rattle.wiring.specs.Tables.{code_in, codes}
use Rattle.wiring.specs.declared.table.TrioRecord.{TrioRecord}
use Rattle.wiring.specs.declared.table.TrioTable.{TrioTable}

pub length_codes : {N : ℕ} (t : TrioTable N) → length (codes t) ≡ t.count
unfolding codes
length_codes t = simp (length-map, length-take) (omega (arith, t.long, t.fits))

-- a write in the front of a list
take_set_in : (n : ℕ) (xs : List TrioRecord) (i : ℕ) (x : TrioRecord) → take n (set xs i x) ≡ set (take n xs) i x
take_set_in zero xs i x = refl
take_set_in (suc n) [] i x = refl
take_set_in (suc n) (y ∷ ys) zero x = refl
take_set_in (suc n) (y ∷ ys) (suc i) x = ap (λ zs. y ∷ zs) (take_set_in n ys i x)

module _ {N : ℕ} (t : TrioTable N) where
  pub code_at : (i : ℕ) (d : TrioRecord) → i < t.count → (get_or t.trios i d).code ≡ get_or (codes t) i 0
  unfolding codes
  code_at i d h =
      let within : i < length (take t.count t.trios) = simp length-take (omega (arith, t.long, t.fits)) in
      sym (get_or-map code_in (take t.count t.trios) i d 0 within ∙ ap code_in (get_or-take t.count t.trios i d h))

  pub codes_push : (u : TrioTable N) (x : TrioRecord) → t.count < N → u.trios ≡ set t.trios t.count x → u.count ≡ t.count + 1 → codes u ≡ codes t ++ (x.code ∷ [])
  unfolding codes
  codes_push u x free trios count =
      let within : t.count < length t.trios = omega (arith, t.long) in
      ap₂ (λ (n : ℕ) (xs : List TrioRecord). map code_in (take n xs)) count trios
      ∙ ap (map code_in) (take_more_set t.trios t.count x within) ∙ map_push code_in (take t.count t.trios) x

  pub codes_set : (u : TrioTable N) (i : ℕ) (x : TrioRecord) → u.trios ≡ set t.trios i x → u.count ≡ t.count → codes u ≡ set (codes t) i x.code
  unfolding codes
  codes_set u i x trios count =
      ap₂ (λ (n : ℕ) (xs : List TrioRecord). map code_in (take n xs)) count trios
      ∙ ap (map code_in) (take_set_in t.count t.trios i x) ∙ map-set code_in (take t.count t.trios) i x

  pub codes_past : (i code : ℕ) → t.count ≤ i → codes t ≡ set (codes t) i code
  codes_past i code h = sym (set_past (codes t) i code (omega (arith, length_codes t)))

-- A line that is cut after its first 41 bytes: how it grows, and that it makes the call of the whole line.
use Rattle.std.proofs.Common.{◌≡◌, ℕ, ◌+◌, ◌<◌, ◌≤◌, List, [], ◌∷◌, ◌++◌, length, take, set, sym, ap, ◌∙◌, inl, inr, arith}
use Rattle.std.proofs.lemmas.List.{length_push, length-take-le, take_all, take-append-le, take_at, take_more_set}
use Rattle.std.proofs.lemmas.Bool.{cases_lt}
use Rattle.console.specs.Requests.{request}
use Rattle.console.proofs.Calls.{request_long}

-- a byte more, where the 41 places have room
pub held_more : (len b : ℕ) (bytes : List ℕ) → length bytes ≡ 41 → len < 41 → take (len + 1) (set bytes len b) ≡ take 41 (take len bytes ++ b ∷ [])
held_more len b bytes long room =
    let low : len ≤ length bytes = omega arith in
    let size = length_push (take len bytes) b ∙ ap (λ k. k + 1) (length-take-le len bytes low) in
    take_more_set bytes len b (omega arith) ∙ sym (take_all 41 (take len bytes ++ b ∷ []) (omega arith))

-- and where they are full
pub held_full : (len b : ℕ) (bytes : List ℕ) → length bytes ≡ 41 → len ≤ 41 → 41 ≤ len → take len bytes ≡ take 41 (take len bytes ++ b ∷ [])
held_full len b bytes long within full =
    let low : len ≤ length bytes = omega arith in
    let size = length-take-le len bytes low in
    sym (take_at (take len bytes) (b ∷ []) 41 (omega arith))

-- bytes that are held are bytes of the line
pub held_some : (len : ℕ) (bytes line : List ℕ) → length bytes ≡ 41 → len ≤ 41 → 0 < len → take len bytes ≡ take 41 line → line ≡ [] → ⊥
held_some len bytes line long within some kept none =
    let low : len ≤ length bytes = omega arith in
    let size = length-take-le len bytes low in
    let empty : length (take len bytes) ≡ 0 = ap length (kept ∙ ap (take 41) none) in
    omega arith

-- what is kept of a line grows as the line does
pub cut_more : (n b : ℕ) (line kept : List ℕ) → kept ≡ take n line → take n (kept ++ b ∷ []) ≡ take n (line ++ b ∷ [])
cut_more n b line kept cut = elim (cases_lt n (length line)) [
  | inl long ↦
      let low : n ≤ length line = omega arith in
      let size = ap length cut ∙ length-take-le n line low in
      take_at kept (b ∷ []) n size ∙ cut ∙ sym (take-append-le n line (b ∷ []) low)
  | inr short ↦ ap (λ bs. take n (bs ++ b ∷ [])) (cut ∙ take_all n line short)
]

-- 41 bytes are refused as any longer line is
pub request_cut : (line : List ℕ) → request (take 41 line) ≡ request line
request_cut line = elim (cases_lt 41 (length line)) [
  | inl long ↦
      let low : 41 ≤ length line = omega arith in
      let size = length-take-le 41 line low in
      request_long (take 41 line) (omega arith) ∙ sym (request_long line (omega arith))
  | inr short ↦ ap request (take_all 41 line short)
]

-- What is counted and taken away at the end of a text and at its beginning.
use Rattle.tbr_flat.proofs.Common.{◌≡◌, true, ℕ, suc, ◌+◌, ◌-◌, ◌<◌, ◌≤◌, List, ◌++◌, length, take, drop, get_or, replicate, refl, ap, sym, ◌∙◌, arith, append_assoc, IsUtf8, IsCharBoundary}
use Rattle.tbr_flat.proofs.Common.{take-append_seam, take-append-drop, take_at, drop_at, length-append, length-take, length-replicate, IsUtf8-from_ascii, IsCharBoundary-from_drop, chars-append}
use Rattle.tbr_flat.proofs.Common.{chars-IsAscii, encodes-chars, encodes-append, encodes-IsAscii, scalars-chars, chars-encodes, IsLeft, spaces_ascii}
use Rattle.std.specs.Str.{chars}
use Rattle.std.proofs.Math.Seq.{get_or-append_seam}
use Rattle.std.proofs.lemmas.Str.{IsUtf8-take}
use lib.Utf8.{encodes, scalars}
use Rattle.tbr_flat.proofs.TextBytes.{IsAfter, left_after, left_utf8, left_count, scalars_take}

-- ---- spaces at the end

-- the last bytes are spaces
pub end_spaces : (text : List ℕ) (n : ℕ) → IsUtf8 text → n ≤ length text → drop (length text - n) text ≡ replicate n 32 → (front : List ℕ) × (chars text ≡ front ++ replicate n 32)
end_spaces text n u h e =
    let i = length text - n in
    let utf8 : IsUtf8 (drop i text) = rw e (IsUtf8-from_ascii (replicate n 32) (spaces_ascii n)) in
    let parts = chars-append (take i text) (drop i text) (IsUtf8-take text i u (IsCharBoundary-from_drop text i (omega arith) utf8)) in
    (chars (take i text), rw (take-append-drop, e, chars-IsAscii (replicate n 32) (spaces_ascii n)) at parts)

spaces_bytes : (text front : List ℕ) (n : ℕ) → IsUtf8 text → chars text ≡ front ++ replicate n 32 → text ≡ encodes front ++ replicate n 32
spaces_bytes text front n u e = rw (e, encodes-append, encodes-IsAscii (replicate n 32) (spaces_ascii n)) at (sym (encodes-chars text u))

spaces_short : (text front : List ℕ) (n : ℕ) → text ≡ front ++ replicate n 32 → length text ≡ length front + n
spaces_short text front n e = omega (arith, ap length e, length-append front (replicate n 32), length-replicate {A = ℕ} n 32)

-- a text that ends with more spaces has one more byte, and that is a space
pub more_spaces : (text front : List ℕ) (n : ℕ) → IsUtf8 text → chars text ≡ front ++ replicate (suc n) 32 → (n < length text) × (get_or text (length text - 1 - n) 0 ≡ 32)
more_spaces text front n u e =
    let bytes : text ≡ encodes front ++ replicate (suc n) 32 = spaces_bytes text front (suc n) u e in
    let len : length text ≡ length (encodes front) + suc n = spaces_short text (encodes front) (suc n) bytes in
    let place : length text - 1 - n ≡ length (encodes front) = omega (arith, len) in
    (omega (arith, len), rw (place, bytes) (get_or-append_seam (encodes front) 32 (replicate n 32) 0))

-- ---- spaces are taken away at the end

module _ (bytes front : List ℕ) (i n m k : ℕ) (cs : List ℕ) (h : IsLeft bytes i n) (seen : chars (drop i bytes) ≡ cs) (e : cs ≡ front ++ replicate m 32) (end : k ≡ length bytes - m) where
  abbrev kept : List ℕ
  kept = take i bytes ++ encodes front

  parted : bytes ≡ kept ++ replicate m 32
  parted =
      let back = spaces_bytes (drop i bytes) front m (left_utf8 bytes i n cs h seen) (seen ∙ e) in
      rw (append_assoc, ← back) (sym (take-append-drop i bytes))

  pub spaces_within : m ≤ length bytes
  spaces_within = omega (arith, spaces_short bytes kept m parted)

  seam : length kept ≡ k
  seam = omega (arith, spaces_short bytes kept m parted, end)

  pub spaces_boundary : IsCharBoundary bytes k
  spaces_boundary = grind (arith, IsCharBoundary-from_drop, parted, drop_at, seam, IsUtf8-from_ascii, spaces_ascii)

  pub spaces_gone : (xs : List ℕ) → xs ≡ take k bytes → IsAfter xs i (n - m) front
  spaces_gone xs is =
      let single : scalars front ≡ true =
      rw (seen, e, take-append_seam front (replicate m 32)) at (scalars_take (length front) (chars (drop i bytes)) (scalars-chars (drop i bytes) (left_utf8 bytes i n cs h seen))) in
      let whole : xs ≡ kept = is ∙ ap (take k) parted ∙ take_at kept (replicate m 32) k seam in
      let first : length (take i bytes) ≡ i = omega (arith, length-take i bytes, h.within) in
      left_after xs i (n - m) (encodes front) front
      (omega (arith, ap length whole, length-append (take i bytes) (encodes front), first))
      (ap (drop i) whole ∙ drop_at (take i bytes) (encodes front) i first)
      (front, (single, refl)) (omega (arith, left_count bytes i n cs h seen, spaces_short cs front m e)) (chars-encodes front single)

-- The bytes of characters.
use Rattle.tbr_flat.proofs.Common.{◌≡◌, ℕ, suc, zero, ◌+◌, ◌-◌, ◌<◌, ◌≤◌, true, List, [], ◌∷◌, ◌++◌, Option, length, take, drop, refl, ap, sym, ◌∙◌, subst, arith, append_assoc, append-nil, None, Some}
use Rattle.tbr_flat.proofs.Common.{add-one, replicate, slice_get, MatchOption, IsUtf8, IsCharBoundary, take-append_seam, drop_at, take_at, drop-drop, drop-append-le, length-replicate}
use Rattle.tbr_flat.proofs.Common.{IsCharBoundary-from_drop, encodes-chars, scalars-chars, chars-encodes, encodes-append, IsUtf8-past_char, is_utf8-from_IsUtf8, IsUtf8-from_is_utf8, chars-append}
use Rattle.tbr_flat.proofs.Common.{chars_past_char, IsUtf8-from_ascii, chars-IsAscii, encodes-IsAscii, IsLeft, chars_none, spaces_ascii}
use Rattle.std.proofs.Common.{encode_utf8, take-append-drop, length-append, length-take-le, length-drop}
use Rattle.std.specs.Str.{IsAscii, chars}
use Rattle.std.specs.Char.{IsScalar}
use Rattle.std.proofs.lemmas.Bool.{and_parts}
use Rattle.std.proofs.lemmas.Str.{IsUtf8-append, IsUtf8-nil, length-le-encodes, IsCharBoundary-at_seam, IsUtf8-encode, chars-nil}
use lib.Utf8.{encodes, scalar, scalars}
use Rattle.tbr_tagged.proofs.TextAfter.{chars_push}

-- ---- what is left of a text

-- After a place in bytes these characters are left.
pub record IsAfter (bytes : List ℕ) (i n : ℕ) (cs : List ℕ) : Type 0 where
  pub parts : IsLeft bytes i n
  pub seen : chars (drop i bytes) ≡ cs

pub left_after : (bytes : List ℕ) (i n : ℕ) (rest cs : List ℕ) → i ≤ length bytes → drop i bytes ≡ rest → IsUtf8 rest → n ≡ length cs → chars rest ≡ cs → IsAfter bytes i n cs
left_after bytes i n rest cs within e u m seen =
    record { parts = record { within = within; utf8 = rw e (is_utf8-from_IsUtf8 rest u); counts = rw (e, seen) m }; seen = rw e seen }

pub nothing_after : (bytes : List ℕ) → bytes ≡ [] → IsAfter bytes 0 0 []
nothing_after bytes e = left_after bytes 0 0 [] [] (omega arith) e IsUtf8-nil refl chars-nil

-- the first of a list of characters
pub first_letter : (cs ds : List ℕ) (o : Option ℕ) → o ≡ slice_get cs 0 → ds ≡ cs → MatchOption o (ds ≡ []) (λ c. (rest : List ℕ) × (ds ≡ c ∷ rest))
first_letter [] ds o h e = rw h e
first_letter (c ∷ cs) ds o h e = rw h (cs, e)

-- ---- characters are counted

-- n characters of a text are read
pub record IsRead (text rest : List ℕ) (n : ℕ) : Type 0 where
  pub whole : text ≡ encodes (take n (chars text)) ++ rest
  pub left : drop n (chars text) ≡ chars rest
  pub utf8 : IsUtf8 rest

pub next_split : {A : Type 0} (xs ys : List A) (n : ℕ) (x : A) → drop n xs ≡ x ∷ ys → (take (suc n) xs ≡ take n xs ++ x ∷ []) × (drop (suc n) xs ≡ ys)
next_split [] ys zero x h = let no : [] ≡ x ∷ ys = h in absurd (cc)
next_split [] ys (suc n) x h = let no : [] ≡ x ∷ ys = h in absurd (cc)
next_split (z ∷ xs) ys zero x h = (cc, cc)
next_split (z ∷ xs) ys (suc n) x h = let k = next_split xs ys n x h in (ap (λ zs. z ∷ zs) k.0, k.1)

read_one : (text rest after : List ℕ) (n c : ℕ) → IsRead text rest n → rest ≡ encode_utf8 c ++ after → IsRead text after (suc n)
read_one text rest after n c h e =
    let k = next_split (chars text) (chars after) n c (h.left ∙ chars_past_char rest after c h.utf8 e) in
    record {
      whole = rw (k.0, encodes-append, append-nil, append_assoc) (rw e at h.whole);
      left = k.1;
      utf8 = IsUtf8-past_char rest after c h.utf8 e;
    }

pub read_next : (P : Type 0) (text rest after : List ℕ) (n count : ℕ) (o : Option ℕ) → IsRead text rest n → n < count → count ≤ length (chars text) →
    MatchOption o ((length rest ≡ 0) × P) (λ c. rest ≡ encode_utf8 c ++ after) → IsRead text after (n + 1)
read_next P text rest after n count None h less within e =
    absurd (omega (arith, length-drop n (chars text), ap length (h.left ∙ chars_none rest e.0), less, within))
read_next P text rest after n count (Some c) h less within e = rw add-one (read_one text rest after n c h e)

-- with the next one, that is the character after the others
pub read_more : (text rest after : List ℕ) (n c : ℕ) → IsRead text rest n → rest ≡ encode_utf8 c ++ after → IsRead text after (n + 1) × (take (n + 1) (chars text) ≡ take n (chars text) ++ c ∷ [])
read_more text rest after n c h e =
    let k = next_split (chars text) (chars after) n c (h.left ∙ chars_past_char rest after c h.utf8 e) in
    (rw add-one (read_one text rest after n c h e), rw add-one k.0)

-- where none comes next all are read
pub all_read : (text rest : List ℕ) (n : ℕ) → IsRead text rest n → length rest ≡ 0 → length (chars text) ≤ n
all_read text rest n h none = omega (arith, length-drop n (chars text), ap length (h.left ∙ chars_none rest none))

pub read_len : (text rest : List ℕ) (n : ℕ) → IsRead text rest n → length text ≡ length (encodes (take n (chars text))) + length rest
read_len text rest n h = ap length h.whole ∙ length-append (encodes (take n (chars text))) rest

-- ---- a text is parted after some characters

scalars_drop : (n : ℕ) (cs : List ℕ) → scalars cs ≡ true → scalars (drop n cs) ≡ true
scalars_drop zero cs h = h
scalars_drop (suc n) [] h = h
scalars_drop (suc n) (c ∷ cs) h = scalars_drop n cs (and_parts (scalar c) (scalars cs) h).1

pub scalars_take : (n : ℕ) (cs : List ℕ) → scalars cs ≡ true → scalars (take n cs) ≡ true
scalars_take (suc n) (c ∷ cs) h = let parts = and_parts (scalar c) (scalars cs) h in rw (parts.0, scalars_take n cs parts.1) refl
scalars_take _ _ h = refl

-- a text parts after its first n characters
pub record SplitsAt (text cs : List ℕ) (n : ℕ) : Type 0 where
  pub whole : text ≡ encodes (take n cs) ++ encodes (drop n cs)
  pub front_utf8 : IsUtf8 (encodes (take n cs))
  pub back_utf8 : IsUtf8 (encodes (drop n cs))
  pub front : chars (encodes (take n cs)) ≡ take n cs
  pub back : chars (encodes (drop n cs)) ≡ drop n cs

pub splits_at : (text cs : List ℕ) (n : ℕ) → IsUtf8 text → chars text ≡ cs → SplitsAt text cs n
splits_at text cs n u e =
    let s = subst (λ ds. scalars ds ≡ true) e (scalars-chars text u) in
    let t = scalars_take n cs s in let d = scalars_drop n cs s in
    record {
      whole = sym (encodes-chars text u) ∙ ap encodes (e ∙ sym (take-append-drop n cs)) ∙ encodes-append (take n cs) (drop n cs);
      front_utf8 = (take n cs, (t, refl));
      back_utf8 = (drop n cs, (d, refl));
      front = chars-encodes (take n cs) t;
      back = chars-encodes (drop n cs) d;
    }

-- and its first n characters take k bytes
pub front_boundary : (text cs : List ℕ) (n k : ℕ) → IsUtf8 text → chars text ≡ cs → k ≡ length (encodes (take n cs)) → IsCharBoundary text k
front_boundary text cs n k u e is =
    let s = splits_at text cs n u e in rw is (IsCharBoundary-at_seam text (encodes (take n cs)) (encodes (drop n cs)) s.whole s.back_utf8)

pub front_letters : (text cs : List ℕ) (n k : ℕ) → IsUtf8 text → chars text ≡ cs → k ≡ length (encodes (take n cs)) → chars (take k text) ≡ take n cs
front_letters text cs n k u e is =
    let s = splits_at text cs n u e in let xs = encodes (take n cs) in
    ap (λ m. chars (take m text)) is ∙ ap (λ bs. chars (take (length xs) bs)) s.whole ∙ ap chars (take-append_seam xs (encodes (drop n cs))) ∙ s.front

-- ---- characters of one byte each

pub chars_within : (text : List ℕ) → IsUtf8 text → length (chars text) ≤ length text
chars_within text u = omega (arith, length-le-encodes (chars text), ap length (encodes-chars text u))

pub ascii_bytes : (text : List ℕ) (n : ℕ) → n ≤ length text → IsAscii (take n text) → n ≡ length (encodes (take n (chars text)))
ascii_bytes text n within ascii =
    let front = take n text in
    let long : length front ≡ n = length-take-le n text within in
    let parts = ap chars (sym (take-append-drop n text)) in
    let whole : chars text ≡ front ++ chars (drop n text) = rw (chars-append front (drop n text) (IsUtf8-from_ascii front ascii), chars-IsAscii front ascii) at parts in
    rw (whole, take_at front (chars (drop n text)) n long, encodes-IsAscii front ascii) (sym long)

-- each takes one where they take as many as they are
pub bytes_each : (cs : List ℕ) (n : ℕ) → length (encodes cs) ≡ length cs → n ≤ length cs → n ≡ length (encodes (take n cs))
bytes_each cs n same within =
    let front = take n cs in let back = drop n cs in
    let parts : length (encodes cs) ≡ length (encodes front) + length (encodes back) = rw (← length-append, ← encodes-append front back, take-append-drop) refl in
    omega (arith, parts, same, length-le-encodes front, length-le-encodes back, length-take-le n cs within, length-drop n cs)

-- ---- what calls on a text leave

pub left_short : (bytes : List ℕ) (i n : ℕ) → IsLeft bytes i n → n ≤ length bytes
left_short bytes i n h = omega (arith, h.counts, h.within, length-drop i bytes, chars_within (drop i bytes) (IsUtf8-from_is_utf8 (drop i bytes) h.utf8))

module _ (bytes : List ℕ) (i n : ℕ) (cs : List ℕ) (h : IsLeft bytes i n) (seen : chars (drop i bytes) ≡ cs) where
  pub left_utf8 : IsUtf8 (drop i bytes)
  left_utf8 = IsUtf8-from_is_utf8 (drop i bytes) h.utf8

  pub left_boundary : IsCharBoundary bytes i
  left_boundary = IsCharBoundary-from_drop bytes i h.within left_utf8

  pub left_count : n ≡ length cs
  left_count = h.counts ∙ ap length seen

  -- a text joins it
  pub joined : (xs ds : List ℕ) (k : ℕ) → xs ≡ bytes ++ ds → IsUtf8 ds → k ≡ length (chars ds) → IsAfter xs i (n + k) (cs ++ chars ds)
  joined xs ds k e u m =
      left_after xs i (n + k) (drop i bytes ++ ds) (cs ++ chars ds) (omega (arith, ap length e, length-append bytes ds, h.within)) (ap (drop i) e ∙ drop-append-le i bytes ds h.within)
      (IsUtf8-append (drop i bytes) ds left_utf8 u) (omega (arith, left_count, m, length-append cs (chars ds))) (chars-append (drop i bytes) ds left_utf8 ∙ ap (λ es. es ++ chars ds) seen)

  pub char_joined : (xs : List ℕ) (c : ℕ) → xs ≡ bytes ++ encode_utf8 c → IsScalar c → IsAfter xs i (n + 1) (cs ++ c ∷ [])
  char_joined xs c e s =
      let one : chars (encode_utf8 c) ≡ c ∷ [] = rw chars-nil at (chars_push [] c IsUtf8-nil s) in
      rw one at (joined xs (encode_utf8 c) 1 e (IsUtf8-encode c s) (rw one refl))

  pub spaces_joined : (xs : List ℕ) (k : ℕ) → xs ≡ bytes ++ replicate k 32 → IsAfter xs i (n + k) (cs ++ replicate k 32)
  spaces_joined xs k e =
      let ascii = spaces_ascii k in
      let seen : chars (replicate k 32) ≡ replicate k 32 = chars-IsAscii (replicate k 32) ascii in
      rw seen at (joined xs (replicate k 32) k e (IsUtf8-from_ascii (replicate k 32) ascii) (rw (seen, length-replicate) refl))

  -- the first characters are forgotten
  pub forgotten : (m k : ℕ) → k ≡ length (encodes (take m cs)) → IsAfter bytes (i + k) (n - m) (drop m cs)
  forgotten m k is =
      let s = splits_at (drop i bytes) cs m left_utf8 seen in let front = encodes (take m cs) in let rest = encodes (drop m cs) in
      left_after bytes (i + k) (n - m) rest (drop m cs) (omega (arith, is, ap length s.whole, length-append front rest, length-drop i bytes, h.within))
      (sym (drop-drop k i bytes) ∙ ap (drop k) s.whole ∙ drop_at front rest k (sym is)) s.back_utf8 (omega (arith, left_count, length-drop m cs)) s.back

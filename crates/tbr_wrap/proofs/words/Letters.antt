-- Characters that a text begins with, and that join a word where it is.
use Rattle.tbr_wrap.proofs.Common.{◌≡◌, ℕ, zero, suc, ◌+◌, ◌≤◌, ◌==◌, Bool, true, false, not, ◌&&◌, ◌||◌, if◌then◌else◌, Option, None, Some, is_some, List, [], ◌∷◌, ◌++◌, fold, length, take, drop}
use Rattle.tbr_wrap.proofs.Common.{chars, refl, ap, sym, ◌∙◌, subst, arith, append-nil, append_assoc, length-append, length-take-le, or-false, take-append-drop, map-append, fold-append, IsAscii}
use Rattle.tbr_wrap.proofs.Common.{take-append_seam, chars-IsAscii, IsUtf8-from_ascii, IsCharBoundary-from_take, chars-append, WhiteSpace, Progress, enter, character, is_break, is_kept, lines_fit}
use Rattle.tbr_wrap.proofs.Common.{width_of_text, each_append, kept_width, ArePlain, joins, JoinWord, JoinInTurn, text_entries}
use Rattle.std.proofs.Common.{encode_utf8}
use lib.Utf8.{encodes}
use Rattle.std.proofs.lemmas.Bool.{or_left}
use Rattle.std.specs.Char.{len_utf8}
use Rattle.std.specs.Str.{IsUtf8}
use Rattle.std.proofs.lemmas.Str.{encodes-append, encodes-chars, length-encode, IsUtf8-drop, chars_past_char}
use Rattle.tbr_model.proofs.rule.WiderLines.{unfit_entries}
use Rattle.tbr_tagged.proofs.TextColumns.{width_of_text-append}
use Rattle.tbr_wrap.specs.Plain.{begins_with_space, IsFront, IsStretch}
use Rattle.tbr_wrap.specs.declared.plain.Stretch.{Stretch}
use Rattle.tbr_flat.proofs.TextBytes.{splits_at}
use Rattle.tbr_wrap.proofs.words.PlainText.{plain_parts}

-- ---- where spaces join

-- where no space joins, and so where one would
pub unspaced : (columns : ℕ → Option ℕ) (keeps some : Bool) (cs : List ℕ) → JoinWord columns false cs → JoinInTurn columns keeps some cs
unspaced columns keeps some [] h = tt
unspaced columns keeps some (c ∷ cs) h = (more (keeps && some) c h.0, all cs h.1)
  where
    more : (spaced : Bool) (d : ℕ) → joins columns false d ≡ true → joins columns spaced d ≡ true
    more spaced d h = or_left (is_kept columns d) (spaced && d == 32) (sym (or-false (is_kept columns d)) ∙ h)

    all : (ds : List ℕ) → JoinWord columns false ds → JoinWord columns keeps ds
    all [] h = tt
    all (d ∷ ds) h = (more keeps d h.0, all ds h.1)

-- a text that begins with no space
in_turn : (columns : ℕ → Option ℕ) (keeps some : Bool) (text : List ℕ) (n : ℕ) →
    JoinWord columns (keeps && (some || not (begins_with_space text))) (take n text) →
    JoinInTurn columns keeps some (take n text)
in_turn columns keeps some (c ∷ cs) (suc n) h = go keeps some (c == 32) refl h
  where
    go : (k s b : Bool) → (c == 32) ≡ b → JoinWord columns (k && (s || not b)) (c ∷ take n cs) → JoinInTurn columns k s (c ∷ take n cs)
    go false s b e h = h
    go true true b e h = h
    go true false false e h = (ap (λ b. is_kept columns c || b) (sym e) ∙ h.0, h.1)
    go true false true e h = unspaced columns true false (c ∷ take n cs) h
in_turn columns keeps some [] (suc n) h = tt
in_turn columns keeps some _ zero h = tt

-- what is known of the characters that a loop has seen
pub record Seen (columns : ℕ → Option ℕ) (room : ℕ) (cs : List ℕ) (s : Stretch) : Type 0 where
  pub bytes : s.bytes ≡ length (encodes cs)
  pub number : s.count ≡ length cs
  pub width : s.columns ≡ width_of_text columns cs
  pub join : JoinWord columns false cs
  pub fits : s.columns ≤ room

-- the first characters of a text, by their bytes
pub front_of : (text cs rest : List ℕ) (n : ℕ) → IsUtf8 text → chars text ≡ cs ++ rest → n ≡ length (encodes cs) → IsFront text n (length cs) × (chars (take n text) ≡ cs)
front_of text cs rest n utf8 split is =
    let m = length cs in let at = splits_at text (chars text) m utf8 refl in
    let first : take m (chars text) ≡ cs = ap (λ ds. take m ds) split ∙ take-append_seam cs rest in
    let back = encodes (drop m (chars text)) in
    let whole : text ≡ encodes cs ++ back = at.whole ∙ ap (λ ds. encodes ds ++ back) first in
    let front : take n text ≡ encodes cs = ap (λ k. take k text) is ∙ ap (λ bs. take (length (encodes cs)) bs) whole ∙ take-append_seam (encodes cs) back in
    let letters : chars (take n text) ≡ cs = ap chars front ∙ ap (λ ds. chars (encodes ds)) (sym first) ∙ at.front ∙ first in (
      record {
        within = omega (arith, is, ap length whole, length-append (encodes cs) back);
        utf8 = subst IsUtf8 (ap encodes first ∙ sym front) at.front_utf8;
        number = ap length (sym letters);
      },
      letters,
    )

encoded_one : (cs : List ℕ) (c : ℕ) → length (encodes (cs ++ c ∷ [])) ≡ length (encodes cs) + len_utf8 c
encoded_one cs c = omega (arith, ap length (encodes-append cs (c ∷ [])), length-append (encodes cs) (encodes (c ∷ [])), ap length (append-nil (encode_utf8 c)), length-encode c)

-- what the next character adds to what a text begins with
pub record NextLetter (text : List ℕ) (n count c : ℕ) (cs : List ℕ) : Type 0 where
  pub front : IsFront text (n + len_utf8 c) (count + 1)
  pub letters : chars (take (n + len_utf8 c) text) ≡ chars (take n text) ++ c ∷ []
  pub whole : chars text ≡ (chars (take n text) ++ c ∷ []) ++ cs

pub next_letter : (text rest : List ℕ) (n count c : ℕ) → IsUtf8 text → IsFront text n count → drop n text ≡ encode_utf8 c ++ rest → NextLetter text n count c (chars rest)
next_letter text rest n count c utf8 f is =
    let first = take n text in let cs = chars first in
    let back = IsUtf8-drop text n utf8 (IsCharBoundary-from_take text n utf8 f.within f.utf8) in
    let split : chars text ≡ (cs ++ c ∷ []) ++ chars rest =
    ap chars (sym (take-append-drop n text)) ∙ chars-append first (drop n text) f.utf8
    ∙ ap (λ ds. cs ++ ds) (chars_past_char (drop n text) rest c back is)
    ∙ sym (append_assoc cs (c ∷ []) (chars rest)) in
    let long : n + len_utf8 c ≡ length (encodes (cs ++ c ∷ [])) = omega (arith, encoded_one cs c, ap length (encodes-chars first f.utf8), length-take-le n text f.within) in
    let k = front_of text (cs ++ c ∷ []) (chars rest) (n + len_utf8 c) utf8 split long in
    record {
      front = subst (IsFront text (n + len_utf8 c)) (omega (arith, f.number, length-append cs (c ∷ []))) k.0;
      letters = k.1;
      whole = split;
    }

module _ {A : Type 0} (columns : ℕ → Option ℕ) (width : ℕ) (a b : A) (mode : WhiteSpace) where
  -- a text is entered, and then more of it
  pub entered_on : (cs ds : List ℕ) (p : Progress A) →
      fold (enter columns width) p (text_entries (cs ++ ds) a b mode) ≡ fold (enter columns width) (fold (enter columns width) p (text_entries cs a b mode)) (text_entries ds a b mode)
  entered_on cs ds p = ap (fold (enter columns width) p) (map-append (λ c. character c a b mode) cs ds) ∙ fold-append (enter columns width) p (text_entries cs a b mode) (text_entries ds a b mode)

  -- a wider line stays
  pub unfit_on : (cs ds es : List ℕ) (c : ℕ) (p : Progress A) → es ≡ (cs ++ c ∷ []) ++ ds →
      lines_fit columns width
      (enter columns width (fold (enter columns width) p (text_entries cs a b mode)) (character c a b mode)).laid.done
      ≡ false →
      lines_fit columns width (fold (enter columns width) p (text_entries es a b mode)).laid.done ≡ false
  unfit_on cs ds es c p is h = rw (is, entered_on (cs ++ c ∷ []) ds p, entered_on cs (c ∷ []) p) (unfit_entries columns width (text_entries ds a b mode) _ h)

-- what was seen is what the text begins with
pub seen_letters : (columns : ℕ → Option ℕ) (room : ℕ) (text cs rest : List ℕ) (s : Stretch) → IsUtf8 text →
    chars text ≡ cs ++ rest → Seen columns room cs s → (keeps some : Bool) → IsStretch columns keeps some text s
seen_letters columns room text cs rest s utf8 split h keeps some =
    let k = front_of text cs rest s.bytes utf8 split h.bytes in
    record {
      front = subst (IsFront text s.bytes) (sym h.number) k.0;
      width = h.width ∙ ap (width_of_text columns) (sym k.1);
      join = subst (JoinInTurn columns keeps some) (sym k.1) (unspaced columns keeps some cs h.join);
    }

kept_parts : (columns : ℕ → Option ℕ) (c n : ℕ) → kept_width columns c ≡ Some n → (joins columns false c ≡ true) × (columns c ≡ Some n)
kept_parts columns c n h = go (is_break c) (columns c) refl refl h
  where
    go : (b : Bool) (o : Option ℕ) → is_break c ≡ b → columns c ≡ o → (if b then None else o) ≡ Some n → (joins columns false c ≡ true) × (columns c ≡ Some n)
    go false (Some m) e f h = (ap (λ o. (is_some o && not (is_break c)) || false) f ∙ ap (λ b. not b || false) e, f ∙ h)
    go false None e f h = cc
    go true o e f h = cc

-- the next one takes no more bytes than the text has
pub next_short : (text cs rest : List ℕ) (c : ℕ) → IsUtf8 text → chars text ≡ cs ++ (c ∷ rest) → length (encodes cs) + len_utf8 c ≤ length text
next_short text cs rest c utf8 split =
    let whole : length text ≡ length (encodes cs) + length (encodes (c ∷ rest)) =
    ap length (sym (encodes-chars text utf8) ∙ ap encodes split ∙ encodes-append cs (c ∷ rest))
    ∙ length-append (encodes cs) (encodes (c ∷ rest)) in
    omega (arith, whole, length-append (encode_utf8 c) (encodes rest), length-encode c)

pub seen_more : (columns : ℕ → Option ℕ) (room : ℕ) (cs : List ℕ) (c n : ℕ) (s t : Stretch) → Seen columns room cs s → kept_width columns c ≡ Some n → s.columns + n ≤ room →
    t ≡ record { bytes = s.bytes + len_utf8 c; count = s.count + 1; columns = s.columns + n } → Seen columns room (cs ++ c ∷ []) t
seen_more columns room cs c n s t h e fits is = grind (arith, kept_parts, encoded_one, length-append, width_of_text-append, each_append)

-- ---- stretches

pub ascii_front : (text : List ℕ) (n : ℕ) → n ≤ length text → IsAscii (take n text) → IsFront text n n
ascii_front text n within ascii = grind (arith, IsUtf8-from_ascii, chars-IsAscii, length-take-le)

-- plain characters
pub plain_stretch : (columns : ℕ → Option ℕ) (keeps some : Bool) (text : List ℕ) (n : ℕ) → columns 32 ≡ Some 1 →
    n ≤ length text → ArePlain columns (keeps && (some || not (begins_with_space text))) (take n text) →
    IsStretch columns keeps some text (record { bytes = n; count = n; columns = n })
plain_stretch columns keeps some text n one within plain =
    let k = plain_parts columns _ (take n text) one plain in
    let same : take n text ≡ chars (take n text) = sym (chars-IsAscii (take n text) k.ascii) in
    record {
      front = ascii_front text n within k.ascii;
      width = sym (k.width ∙ length-take-le n text within) ∙ ap (width_of_text columns) same;
      join = subst (JoinInTurn columns keeps some) same (in_turn columns keeps some text n k.join);
    }

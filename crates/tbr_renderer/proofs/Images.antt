-- The title that is shown for an image.
use Rattle.tbr_renderer.proofs.Common.{◌≡◌, ℕ, Bool, true, false, List, [], ◌∷◌, ◌++◌, length, take, drop, chars, Some, refl, sym, ap, ◌∙◌, subst, arith, chars-nil, shown_title}
use Rattle.tbr_renderer.proofs.Common.{title_by_mode}
use Rattle.std.proofs.Common.{◌==◌, ◌||◌, lit<, eqb-true, encode_utf8_all}
use Rattle.std.specs.List.{list_any}
use Rattle.std.specs.Str.{IsUtf8, IsCharBoundary, NonePass, NoCharPasses}
use Rattle.std.specs.Str.Pattern.{RFindsChar}
use Rattle.std.proofs.lemmas.Bool.{false≢true, or_right}
use Rattle.std.proofs.lemmas.List.{take-append-drop}
use Rattle.std.proofs.Math.Seq.{take-append_seam}
use Rattle.std.proofs.lemmas.Str.{chars_from_encodes, chars-append, chars_past_char, encodes-chars, encode_ascii, IsUtf8-drop, IsUtf8-take, IsCharBoundary-at_seam}
use Rattle.std.proofs.lemmas.Str.Pattern.{drop_at_char}
use Rattle.tbr_renderer.specs.declared.options.ImageRenderMode.{ImageRenderMode}
use Rattle.tbr_renderer.specs.Image.{is_slash, file_name}

-- ---- the name of a file

no_slash : (cs : List ℕ) → NonePass is_slash cs → list_any is_slash cs ≡ false
no_slash [] h = refl
no_slash (c ∷ cs) h = ap (λ b. b || list_any is_slash cs) h.0 ∙ no_slash cs h.1

none_passes : (bs : List ℕ) → IsUtf8 bs → NoCharPasses is_slash bs → list_any is_slash (chars bs) ≡ false
none_passes bs utf8 h = no_slash (chars bs) (subst (NonePass is_slash) (chars_from_encodes h.0 bs utf8 h.1) h.2)

either_false : (a b : Bool) → a || b ≡ false → (a ≡ false) × (b ≡ false)
either_false true b h = absurd (false≢true (sym h))
either_false false b h = (refl, h)

whole_name : (cs : List ℕ) → list_any is_slash cs ≡ false → file_name cs ≡ cs
whole_name [] h = refl
whole_name (c ∷ cs) h = grind (arith, either_false)

has_slash : (cs name : List ℕ) → list_any is_slash (cs ++ 47 ∷ name) ≡ true
has_slash [] name = refl
has_slash (c ∷ cs) name = or_right (is_slash c) (list_any is_slash (cs ++ 47 ∷ name)) (has_slash cs name)

last_name : (cs name : List ℕ) → list_any is_slash name ≡ false → file_name (cs ++ 47 ∷ name) ≡ name
last_name [] name h = rw h refl
last_name (c ∷ cs) name h = rw (has_slash cs name) (last_name cs name h)

-- a source without a slash
pub name_alone : (src : List ℕ) → IsUtf8 src → NoCharPasses is_slash src → chars src ≡ file_name (chars src)
name_alone src utf8 h = sym (whole_name (chars src) (none_passes src utf8 h))

slash_utf8 : (name : List ℕ) → IsUtf8 name → IsUtf8 (47 ∷ name)
slash_utf8 name (cs, (scalars, e)) = (47 ∷ cs, (scalars, ap (λ bs. bs ++ encode_utf8_all cs) (encode_ascii 47 (lit< tt)) ∙ ap (λ bs. 47 ∷ bs) e))

-- and one whose last slash is before `name`
pub name_after : (src name : List ℕ) (i j : ℕ) → IsUtf8 src → RFindsChar 47 src (Some (i, j)) → name ≡ drop j src → chars name ≡ file_name (chars src)
name_after src name i j utf8 h n =
    let front : List ℕ = take i src in
    let at : IsCharBoundary src j = subst (IsCharBoundary src) (sym h.1.ends) h.1.after in
    let utf8_name : IsUtf8 name = subst IsUtf8 (sym n) (IsUtf8-drop src j utf8 at) in
    let cut : drop i src ≡ 47 ∷ name = drop_at_char 47 src i j h.1 (lit< tt) ∙ ap (λ bs. 47 ∷ bs) (sym n) in
    let seam : src ≡ front ++ 47 ∷ name = sym (take-append-drop i src) ∙ ap (λ bs. front ++ bs) cut in
    let parted : take (length front) src ≡ front = ap (take (length front)) seam ∙ take-append_seam front (47 ∷ name) in
    let utf8_front : IsUtf8 front = subst IsUtf8 parted (IsUtf8-take src (length front) utf8 (IsCharBoundary-at_seam src front (47 ∷ name) seam (slash_utf8 name utf8_name))) in
    let tail : chars (47 ∷ name) ≡ 47 ∷ chars name = chars_past_char (47 ∷ name) name 47 (slash_utf8 name utf8_name) (ap (λ bs. bs ++ name) (sym (encode_ascii 47 (lit< tt)))) in
    let whole : chars src ≡ chars front ++ 47 ∷ chars name = ap chars seam ∙ chars-append front (47 ∷ name) utf8_front ∙ ap (λ cs. chars front ++ cs) tail in
    sym (ap file_name whole ∙ last_name (chars front) (chars name) (none_passes name utf8_name (subst (NoCharPasses is_slash) (sym n) h.0)))

-- ---- with a title, and without

pub titled : (mode : ImageRenderMode) (src title : List ℕ) → IsUtf8 title → false ≡ (length title == 0) → shown_title mode src (chars title) ≡ Some (chars title)
titled mode src title utf8 some = go (chars title) (encodes-chars title utf8)
  where
    go : (cs : List ℕ) → encode_utf8_all cs ≡ title → shown_title mode src cs ≡ Some cs
    go [] e = absurd (false≢true (some ∙ ap (λ bs. length bs == 0) (sym e)))
    go (c ∷ cs) e = refl

pub untitled : (mode : ImageRenderMode) (src title : List ℕ) → true ≡ (length title == 0) → shown_title mode src (chars title) ≡ title_by_mode mode src
untitled mode src [] none = ap (shown_title mode src) chars-nil
untitled mode src (b ∷ bs) none = grind (arith, eqb-true)

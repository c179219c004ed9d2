-- Control characters and their escapes.
use Rattle.std.proofs.Common.{◌≡◌, ℕ, ◌<◌, ◌||◌, Bool, true, false, List, [], ◌∷◌, ◌++◌, refl, ap, sym, subst, ◌∙◌, if◌then◌else◌, arith}
use Rattle.std.specs.Prelude.{All, encode_utf8}
use Rattle.std.specs.Char.{is_control}
use Rattle.std.specs.List.{range_with_len, list_any, AllByRecursion as Each}
use Rattle.std.proofs.lemmas.Bool.{false≢true}
use Rattle.std.proofs.lemmas.Bool.Decides.{nat_tests}
use Rattle.std.proofs.lemmas.List.FromFn.{get_or-range_with_len, length-range_with_len}
use Rattle.std.proofs.lemmas.List.Sums.{AllPass-from_list_all}
use Rattle.std.proofs.lemmas.List.Elements.{All-head, All-tail}
use Rattle.percent_encoding.specs.AsciiSet.{contains, should_percent_encode}
use Rattle.percent_encoding.specs.Percent.{percent_encode}
use Rattle.percent_encoding.specs.declared.ascii_set.TheConstants.{CONTROLS}
use Rattle.percent_encoding.proofs.AsciiSetLemmas.{ascii_from_kept, outside_from_kept}
use Rattle.percent_encoding.proofs.PercentLemmas.{IsEscapeByte, All-percent_encode}
use Rattle.tbr_safe.specs.Escaped.{escaped_character, escaped}

-- no control character
abbrev pub IsShown : ℕ → Type 0
IsShown c = is_control c ≡ false

-- ---- what is left

controls_are_escaped : (b : ℕ) → b < 32 → contains CONTROLS b ≡ true
controls_are_escaped b h =
    let xs = range_with_len 0 32 in
    let all = AllPass-from_list_all (contains CONTROLS) xs refl b 0 (omega (arith, length-range_with_len 0 32)) in
    subst (λ n. contains CONTROLS n ≡ true) (get_or-range_with_len 0 32 b 0 h ∙ omega arith) all

kept_is_shown : (b : ℕ) → should_percent_encode CONTROLS b ≡ false → IsShown b
kept_is_shown b kept =
    let below = ascii_from_kept CONTROLS b kept in
    let outside = outside_from_kept CONTROLS b kept in
    let high : b < 32 → ⊥ = λ h. false≢true (sym outside ∙ controls_are_escaped b h) in
    let delete : b ≡ 127 → ⊥ = λ e. false≢true (sym outside ∙ ap (contains CONTROLS) e) in
    grind (arith, nat_tests, below, high, delete)

escape_is_shown : (b : ℕ) → IsEscapeByte b → IsShown b
escape_is_shown b h = grind (arith, nat_tests)

each_from_all : (P : ℕ → Type 0) (cs : List ℕ) → All P cs → Each P cs
each_from_all P [] h = tt
each_from_all P (c ∷ cs) h = (All-head P c cs h, each_from_all P cs (All-tail P c cs h))

pub each_both : (P : ℕ → Type 0) (xs ys : List ℕ) → Each P xs → Each P ys → Each P (xs ++ ys)
each_both P [] ys h k = k
each_both P (x ∷ xs) ys h k = (h.0, each_both P xs ys h.1 k)

encoded_is_shown : (bytes : List ℕ) → Each IsShown (percent_encode CONTROLS bytes)
encoded_is_shown bytes = each_from_all IsShown (percent_encode CONTROLS bytes) (All-percent_encode IsShown CONTROLS bytes kept_is_shown escape_is_shown)

character_is_shown : (c : ℕ) → Each IsShown (escaped_character c)
character_is_shown c = go (is_control c) refl
  where
    go : (b : Bool) → is_control c ≡ b → Each IsShown (if b then percent_encode CONTROLS (encode_utf8 c) else c ∷ [])
    go true is = encoded_is_shown (encode_utf8 c)
    go false is = (is, tt)

pub none_left : (cs : List ℕ) → Each (λ c. is_control c ≡ false) (escaped cs)
none_left [] = tt
none_left (c ∷ cs) = each_both IsShown (escaped_character c) (escaped cs) (character_is_shown c) (none_left cs)

-- ---- what stays

as_it_is : (c : ℕ) (b : Bool) → b ≡ false → (if b then percent_encode CONTROLS (encode_utf8 c) else c ∷ []) ≡ c ∷ []
as_it_is c b is = ap (λ (p : Bool). if p then percent_encode CONTROLS (encode_utf8 c) else c ∷ []) is

pub others_stay : (cs : List ℕ) → Each (λ c. is_control c ≡ false) cs → escaped cs ≡ cs
others_stay [] h = refl
others_stay (c ∷ cs) h =
    ap (λ (ds : List ℕ). ds ++ escaped cs) (as_it_is c (is_control c) h.0) ∙ ap (λ (ds : List ℕ). c ∷ ds) (others_stay cs h.1)

or_left : (p q : Bool) → (p || q) ≡ false → p ≡ false
or_left true q h = h
or_left false q h = refl

or_right : (p q : Bool) → (p || q) ≡ false → q ≡ false
or_right true q h = absurd (false≢true (sym h))
or_right false q h = h

none_among : (cs : List ℕ) → list_any is_control cs ≡ false → Each (λ c. is_control c ≡ false) cs
none_among [] h = tt
none_among (c ∷ cs) h =
    (or_left (is_control c) (list_any is_control cs) h, none_among cs (or_right (is_control c) (list_any is_control cs) h))

pub stays : (cs : List ℕ) → list_any is_control cs ≡ false → escaped cs ≡ cs
stays cs none = others_stay cs (none_among cs none)

-- What a terminal shows of what is written for it.
use Rattle.tbr_show.proofs.Common.{◌≡◌, ℕ, Bool, true, false, not, List, [], ◌∷◌, ◌++◌, refl, ap, sym, subst, ◌∙◌, append_assoc, rules, false≢true, flat_map, codes, is_control, filter-append}
use Rattle.tbr_show.proofs.Common.{newline_character, Element, piece, characters, printable, ends}
use Rattle.std.proofs.Common.{◌≢◌, zero, suc, ◌+◌, ◌%◌, ◌/◌, ◌<◌, ◌==◌, arith, cond, lit<}
use Rattle.std.proofs.Math.Nat.{mod-lt}
use Rattle.std.proofs.lemmas.Bool.{lt-ltb}
use Rattle.std.proofs.lemmas.Bool.Decides.{nat_tests}
use Rattle.std.specs.List.{range_with_len, AllByRecursion as Each}
use Rattle.std.proofs.lemmas.List.FromFn.{get_or-range_with_len, length-range_with_len}
use Rattle.std.proofs.lemmas.List.Sums.{AllPass-from_list_all}
use Rattle.percent_encoding.specs.AsciiSet.{contains, should_percent_encode}
use Rattle.percent_encoding.proofs.AsciiSetLemmas.{ascii_from_kept, outside_from_kept}
use Rattle.percent_encoding.proofs.PercentLemmas.{IsEscapeByte, All-percent_encode}
use Rattle.std.specs.Prelude.{All, string_bytes, Vec}
use Rattle.std.specs.Int.{is_in_range}
use Rattle.std.specs.Fmt.{decimal, digits, digits_onto, digit_glyph}
use Rattle.std.specs.declared.alloc.Global.{Global}
use Rattle.std.proofs.lemmas.List.Elements.{All-head, All-tail}
use Rattle.tbr_tagged.specs.Elements.{marker_element}
use Rattle.tbr_decor.specs.declared.colour.Colour.{Colour}
use Rattle.tbr_decor.specs.declared.annotation.RichAnnotation.{RichAnnotation}
use Rattle.tbr_decor.specs.declared.annotation.RichAnnotation.TheVariants as rich
use Rattle.tbr_show.specs.Written.{colour_parts}
use Rattle.tbr_show.specs.declared.target.TheConstants.{NOT_OF_URLS}
use Rattle.tbr_show.specs.Target.{encoded, is_followed}
use Rattle.tbr_show.specs.Ansi.{selects, links, begins, element, line, escape_character}
use Rattle.tbr_show.specs.Terminal.{seen, among, sequence, command}

-- a digit or a semicolon, as a selection has them
IsParameter : ℕ → Type 0
IsParameter c = (is_in_range 0x40 0x7E c ≡ false) × (is_control c ≡ false)

each_both : {X : Type 0} (P : X → Type 0) (xs ys : List X) → Each P xs → Each P ys → Each P (xs ++ ys)
each_both P [] ys h k = k
each_both P (x ∷ xs) ys h k = (h.0, each_both P xs ys h.1 k)

each_more : {P Q : ℕ → Type 0} (cs : List ℕ) → ((c : ℕ) → P c → Q c) → Each P cs → Each Q cs
each_more [] f h = tt
each_more (c ∷ cs) f h = (f c h.0, each_more cs f h.1)

-- ---- parameters

a_digit : (d : ℕ) → d < 10 → IsParameter (48 + d)
unfolding IsParameter
a_digit d h = (grind (arith, nat_tests), grind (arith, nat_tests))

a_glyph : (d : ℕ) → d < 10 → IsParameter (digit_glyph false d)
a_glyph d h = rw (lt-ltb d 10 h) (a_digit d h)

either : (b : Bool) (one other : List ℕ) → Each IsParameter one → Each IsParameter other → Each IsParameter (cond b one other)
either true one other h k = h
either false one other h k = k

digits_are : (k n : ℕ) (acc : List ℕ) → Each IsParameter acc → Each IsParameter (digits_onto k 10 false n acc)
digits_are zero n acc h = h
digits_are (suc k) n acc h =
    let more : Each IsParameter (digit_glyph false (n % 10) ∷ acc) = (a_glyph (n % 10) (mod-lt n (lit< tt)), h) in
    either (n / 10 == 0) (digit_glyph false (n % 10) ∷ acc) (digits_onto k 10 false (n / 10) (digit_glyph false (n % 10) ∷ acc)) more (digits_are k (n / 10) (digit_glyph false (n % 10) ∷ acc) more)

decimal_is : (n : ℕ) → Each IsParameter (decimal n)
unfolding digits
decimal_is n = digits_are 64 n [] tt

semicolon_is : Each IsParameter (codes ";")
unfolding IsParameter
semicolon_is = ((refl, refl), tt)

parts_are : (c : Colour) → Each IsParameter (colour_parts (codes ";") c)
parts_are c = search (rules, each_both, IsParameter, decimal_is, semicolon_is)

-- ---- what a terminal shows nothing of, and which control characters it has

-- a control character is an escape or the newline
abbrev pub IsOwn : ℕ → Type 0
IsOwn c = is_control c ≡ true → c ≢ newline_character → c ≡ escape_character

pub Hidden : List ℕ → Type 0
Hidden mark = (rest : List ℕ) → seen among (mark ++ rest) ≡ seen among rest

-- a mark: it is hidden, and its control characters are its own
IsMark : List ℕ → Type 0
IsMark mark = Hidden mark × Each IsOwn mark

no_mark : IsMark []
unfolding Hidden IsMark
no_mark = ((λ rest. refl), tt)

both_marks : (one other : List ℕ) → IsMark one → IsMark other → IsMark (one ++ other)
unfolding Hidden IsMark
both_marks one other h k =
    ((λ rest. ap (seen among) (append_assoc one other rest) ∙ h.0 (other ++ rest) ∙ k.0 rest), each_both IsOwn one other h.1 k.1)

in_sequence : (parameters rest : List ℕ) → Each IsParameter parameters → seen sequence (parameters ++ rest) ≡ seen sequence rest
unfolding IsParameter
in_sequence [] rest h = refl
in_sequence (c ∷ cs) rest h = rw h.0.0 (in_sequence cs rest h.1)

parameter_is_own : (c : ℕ) → IsParameter c → IsOwn c
unfolding IsParameter
parameter_is_own c h = λ control _. absurd (false≢true (sym h.1 ∙ control))

escape_is_own : IsOwn escape_character
escape_is_own = λ _ _. refl

selects_marks : (parameters : List ℕ) → Each IsParameter parameters → IsMark (selects parameters)
unfolding Hidden IsMark
selects_marks ps h = (
  (λ rest. ap (seen sequence) (append_assoc ps (109 ∷ []) rest) ∙ in_sequence ps (109 ∷ rest) h),
  (escape_is_own, (λ control. cc, each_both IsOwn ps (109 ∷ []) (each_more ps parameter_is_own h) (λ control. cc, tt))),
)

-- no escape
IsPlain : ℕ → Type 0
IsPlain c = (c == escape_character) ≡ false

-- no control character
IsShown : ℕ → Type 0
IsShown c = is_control c ≡ false

shown_is_plain : (c : ℕ) → IsShown c → IsPlain c
unfolding IsShown IsPlain
shown_is_plain c h = grind (arith, nat_tests)

in_command : (cs rest : List ℕ) → Each IsPlain cs → seen command (cs ++ rest) ≡ seen command rest
unfolding IsPlain
in_command [] rest h = refl
in_command (c ∷ cs) rest h = rw h.0 (in_command cs rest h.1)

shown_is_own : (c : ℕ) → IsShown c → IsOwn c
unfolding IsShown
shown_is_own c h = λ control _. absurd (false≢true (sym h ∙ control))

links_marks : (target : List ℕ) → Each IsShown target → IsMark (links target)
unfolding Hidden IsMark
links_marks target h = (
  (λ rest. ap (seen command) (append_assoc target (27 ∷ 92 ∷ []) rest) ∙ in_command target (27 ∷ 92 ∷ rest) (each_more target shown_is_plain h)),
  (escape_is_own, (λ control. cc, (λ control. cc, (λ control. cc, (λ control. cc, each_both IsOwn target (27 ∷ 92 ∷ []) (each_more target shown_is_own h) (escape_is_own, (λ control. cc, tt))))))),
)

-- ---- targets

controls_are_escaped : (b : ℕ) → b < 32 → contains NOT_OF_URLS b ≡ true
controls_are_escaped b h =
    let xs = range_with_len 0 32 in
    let all = AllPass-from_list_all (contains NOT_OF_URLS) xs refl b 0 (omega (arith, length-range_with_len 0 32)) in
    subst (λ n. contains NOT_OF_URLS n ≡ true) (get_or-range_with_len 0 32 b 0 h ∙ omega arith) all

kept_is_shown : (b : ℕ) → should_percent_encode NOT_OF_URLS b ≡ false → IsShown b
unfolding IsShown
kept_is_shown b kept =
    let below = ascii_from_kept NOT_OF_URLS b kept in
    let outside = outside_from_kept NOT_OF_URLS b kept in
    let high : b < 32 → ⊥ = λ h. false≢true (sym outside ∙ controls_are_escaped b h) in
    let delete : b ≡ 127 → ⊥ = λ e. false≢true (sym outside ∙ ap (contains NOT_OF_URLS) e) in
    grind (arith, nat_tests, below, high, delete)

escape_is_shown : (b : ℕ) → IsEscapeByte b → IsShown b
unfolding IsShown
escape_is_shown b h = grind (arith, nat_tests)

each_from_all : (P : ℕ → Type 0) (cs : List ℕ) → All P cs → Each P cs
each_from_all P [] h = tt
each_from_all P (c ∷ cs) h = (All-head P c cs h, each_from_all P cs (All-tail P c cs h))

encoded_is_shown : (target : List ℕ) → Each IsShown (encoded target)
encoded_is_shown target = each_from_all IsShown (encoded target) (All-percent_encode IsShown NOT_OF_URLS target kept_is_shown escape_is_shown)

shown_if : (leads : Bool) (target : List ℕ) → Each IsShown (cond leads (encoded target) [])
shown_if true target = encoded_is_shown target
shown_if false target = tt

-- ---- annotations

colour_marks : (ground : List ℕ) → Each IsParameter ground → (c : Colour) → IsMark (selects (ground ++ colour_parts (codes ";") c))
colour_marks ground h c = selects_marks (ground ++ colour_parts (codes ";") c) (each_both IsParameter ground (colour_parts (codes ";") c) h (parts_are c))

begins_marks : (a : RichAnnotation) → IsMark (begins a)
unfolding IsParameter
begins_marks rich.Default = no_mark
begins_marks (rich.Link target) =
    let leads = shown_if (is_followed (string_bytes target)) (string_bytes target) in
    let to = cond (is_followed (string_bytes target)) (encoded (string_bytes target)) [] in
    both_marks (selects (codes "4")) (links to) (selects_marks (codes "4") ((refl, refl), tt)) (links_marks to leads)
begins_marks (rich.Image source) = selects_marks (codes "2") ((refl, refl), tt)
begins_marks rich.Emphasis = selects_marks (codes "3") ((refl, refl), tt)
begins_marks rich.Strong = selects_marks (codes "1") ((refl, refl), tt)
begins_marks rich.Strikeout = selects_marks (codes "9") ((refl, refl), tt)
begins_marks rich.Code = selects_marks (codes "36") ((refl, refl), ((refl, refl), tt))
begins_marks (rich.Preformat continued) = no_mark
begins_marks (rich.Colour colour) = colour_marks (codes "38;2;") ((refl, refl), ((refl, refl), ((refl, refl), ((refl, refl), ((refl, refl), tt))))) colour
begins_marks (rich.BgColour colour) = colour_marks (codes "48;2;") ((refl, refl), ((refl, refl), ((refl, refl), ((refl, refl), ((refl, refl), tt))))) colour

ends_marks : (a : RichAnnotation) → IsMark (ends a)
unfolding IsParameter
ends_marks rich.Default = no_mark
ends_marks (rich.Link target) = both_marks (links []) (selects (codes "24")) (links_marks [] tt) (selects_marks (codes "24") ((refl, refl), ((refl, refl), tt)))
ends_marks (rich.Image source) = selects_marks (codes "22") ((refl, refl), ((refl, refl), tt))
ends_marks rich.Emphasis = selects_marks (codes "23") ((refl, refl), ((refl, refl), tt))
ends_marks rich.Strong = selects_marks (codes "22") ((refl, refl), ((refl, refl), tt))
ends_marks rich.Strikeout = selects_marks (codes "29") ((refl, refl), ((refl, refl), tt))
ends_marks rich.Code = selects_marks (codes "39") ((refl, refl), ((refl, refl), tt))
ends_marks (rich.Preformat continued) = no_mark
ends_marks (rich.Colour colour) = selects_marks (codes "39") ((refl, refl), ((refl, refl), tt))
ends_marks (rich.BgColour colour) = selects_marks (codes "49") ((refl, refl), ((refl, refl), tt))

all_marks : (f : RichAnnotation → List ℕ) → ((a : RichAnnotation) → IsMark (f a)) → (xs : List RichAnnotation) → IsMark (flat_map f xs)
all_marks f h [] = no_mark
all_marks f h (a ∷ xs) = both_marks (f a) (flat_map f xs) (h a) (all_marks f h xs)

-- ---- characters

printable_is_shown : (cs : List ℕ) → Each IsShown (printable cs)
unfolding IsShown
printable_is_shown [] = tt
printable_is_shown (c ∷ cs) = by (is_control c) refl (printable_is_shown cs)
  where
    by : (b : Bool) → is_control c ≡ b → Each IsShown (printable cs) → Each IsShown (cond (not b) (c ∷ printable cs) (printable cs))
    by true e more = more
    by false e more = (e, more)

among_characters : (cs rest : List ℕ) → Each IsPlain cs → seen among (cs ++ rest) ≡ cs ++ seen among rest
unfolding IsPlain
among_characters [] rest h = refl
among_characters (c ∷ cs) rest h = rw h.0 (ap (λ ds. c ∷ ds) (among_characters cs rest h.1))

-- ---- lines

seen_piece : (before cs after more rest : List ℕ) → IsMark before → IsMark after →
    seen among ((((before ++ printable cs) ++ after) ++ more) ++ rest) ≡ printable cs ++ seen among (more ++ rest)
unfolding Hidden IsMark
seen_piece before cs after more rest h k =
    ap (seen among)
    (append_assoc ((before ++ printable cs) ++ after) more rest
    ∙ append_assoc (before ++ printable cs) after (more ++ rest)
    ∙ append_assoc before (printable cs) (after ++ (more ++ rest)))
    ∙ h.0 (printable cs ++ (after ++ (more ++ rest)))
    ∙ among_characters (printable cs) (after ++ (more ++ rest)) (each_more (printable cs) shown_is_plain (printable_is_shown cs))
    ∙ ap (λ ds. printable cs ++ ds) (k.0 (more ++ rest))

seen_elements : (es : List (Element (Vec RichAnnotation Global))) (rest : List ℕ) → seen among (flat_map element es ++ rest) ≡ printable (characters es) ++ seen among rest
seen_elements [] rest = refl
seen_elements (piece cs tag ∷ es) rest = search (rules, seen_piece, all_marks, begins_marks, ends_marks, append_assoc, filter-append, ℕ, not, seen_elements es rest)
seen_elements (marker_element name ∷ es) rest = seen_elements es rest

elements_are_own : (es : List (Element (Vec RichAnnotation Global))) → Each IsOwn (flat_map element es)
unfolding IsMark
elements_are_own [] = tt
elements_are_own (piece cs tag ∷ es) =
    let before = flat_map begins tag.items in
    let after = flat_map ends tag.items in
    each_both IsOwn ((before ++ printable cs) ++ after) (flat_map element es)
    (each_both IsOwn (before ++ printable cs) after
    (each_both IsOwn before (printable cs) (all_marks begins begins_marks tag.items).1 (each_more (printable cs) shown_is_own (printable_is_shown cs)))
    (all_marks ends ends_marks tag.items).1)
    (elements_are_own es)
elements_are_own (marker_element name ∷ es) = elements_are_own es

pub line_is_own : (es : List (Element (Vec RichAnnotation Global))) → Each IsOwn (line es)
line_is_own es = each_both IsOwn (flat_map element es) (newline_character ∷ []) (elements_are_own es) ((λ _ other. absurd (other refl)), tt)

pub line_is_seen : (es : List (Element (Vec RichAnnotation Global))) → seen among (line es) ≡ printable (characters es) ++ newline_character ∷ []
line_is_seen es = seen_elements es (newline_character ∷ [])

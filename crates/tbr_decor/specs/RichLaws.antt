-- Rich annotations are equal exactly where they mean the same, and copies are equal.
use Rattle.std.specs.Prelude.{◌≡◌, ℕ, Bool, true, false, ◌&&◌, ◌==◌, nat_eq, List, [], String, chars, string_bytes, IsTrue, ◌↔◌, refl}
use Rattle.std.proofs.Common.{sym, ap, ◌∙◌, subst}
use Rattle.std.proofs.lemmas.Bool.{eqb-true, eq-eqb, false≢true}
use Rattle.std.specs.Cmp.Lexicographic.{pointwise}
use Rattle.std.proofs.Math.Bool.{beq}
use Rattle.tbr_tags.specs.Tells.{lists_tell, numbers_tell, same_flag, one_flag, flags_tell, flags_equal}
use Rattle.tbr_tags.specs.Texts.{same_characters, equal_text}
use Rattle.tbr_decor.specs.contracts.annotation.RichAnnotationPartialEq.TheImpl as annotation
use Rattle.tbr_decor.specs.contracts.annotation.RichAnnotationClone.TheImpl as copy
use Rattle.tbr_decor.specs.declared.annotation.RichAnnotation.{RichAnnotation}
use Rattle.tbr_decor.specs.declared.annotation.RichAnnotation.TheVariants as rich
use Rattle.tbr_decor.specs.contracts.colour.ColourPartialEq.TheImpl as colour
use Rattle.tbr_decor.specs.declared.colour.Colour.{Colour}
use Rattle.tbr_decor.specs.Style as style
use Rattle.tbr_decor.specs.Style.{Style, style_of, one_colour, same_style}

all_three : (p q r : Bool) → (p && (q && r)) ≡ true → (p ≡ true) × (q ≡ true) × (r ≡ true)
all_three true true true h = (refl, refl, refl)
all_three true true false h = cc
all_three true false r h = cc
all_three false q r h = cc

same_parts : {x y : Colour} → x.r ≡ y.r → x.g ≡ y.g → x.b ≡ y.b → x ≡ y
same_parts r g b = λ i. record { r = r i; g = g i; b = b i }

same_colour : (x y : Colour) → IsTrue (colour.ghosts.eq x y) → x ≡ y
same_colour x y h =
    let parts = all_three (x.r == y.r) (x.g == y.g) (x.b == y.b) h in
    let r : x.r ≡ y.r = eqb-true x.r y.r parts.0 in
    let g : x.g ≡ y.g = eqb-true x.g y.g parts.1 in
    let b : x.b ≡ y.b = eqb-true x.b y.b parts.2 in
    same_parts r g b

equal_colour : (x : Colour) → IsTrue (colour.ghosts.eq x x)
equal_colour x = rw (eq-eqb x.r x.r refl, eq-eqb x.g x.g refl, eq-eqb x.b x.b refl) refl

-- a number for each constructor
kind : Style → ℕ
kind style.plain = 0
kind (style.link target) = 1
kind (style.image source) = 2
kind style.emphasis = 3
kind style.strong = 4
kind style.strikeout = 5
kind style.code = 6
kind (style.preformatted continued) = 7
kind (style.colour c) = 8
kind (style.background c) = 9

of_one_kind : (s t : Style) → (kind s == kind t) ≡ false → s ≡ t → ⊥
of_one_kind s t n e = false≢true (sym n ∙ eq-eqb (kind s) (kind t) (ap kind e))

pub equal_by_style : (a b : RichAnnotation) → IsTrue (annotation.ghosts.eq a b) ↔ (style_of a ≡ style_of b)
unfolding kind
equal_by_style rich.Default rich.Default = (λ _. refl, λ _. refl)
equal_by_style (rich.Link s) (rich.Link t) = (λ h. ap style.link (same_characters s t h), λ h. equal_text s t cc)
equal_by_style (rich.Image s) (rich.Image t) = (λ h. ap style.image (same_characters s t h), λ h. equal_text s t cc)
equal_by_style rich.Emphasis rich.Emphasis = (λ _. refl, λ _. refl)
equal_by_style rich.Strong rich.Strong = (λ _. refl, λ _. refl)
equal_by_style rich.Strikeout rich.Strikeout = (λ _. refl, λ _. refl)
equal_by_style rich.Code rich.Code = (λ _. refl, λ _. refl)
equal_by_style (rich.Preformat x) (rich.Preformat y) = (
  λ h. ap style.preformatted (same_flag x y h),
  λ h. one_flag x y (let e : x ≡ y = cc in e),
)
equal_by_style (rich.Colour x) (rich.Colour y) = (
  λ h. ap style.colour (same_colour x y h),
  λ h. let e : x ≡ y = cc in subst (λ (c : Colour). IsTrue (colour.ghosts.eq x c)) e (equal_colour x),
)
equal_by_style (rich.BgColour x) (rich.BgColour y) = (
  λ h. ap style.background (same_colour x y h),
  λ h. let e : x ≡ y = cc in subst (λ (c : Colour). IsTrue (colour.ghosts.eq x c)) e (equal_colour x),
)
equal_by_style a b = (λ h. absurd (false≢true h), λ e. absurd (of_one_kind (style_of a) (style_of b) refl e))

-- where what a style is made of is told apart, styles of one kind are
parts_apart : {X : Type 0} (make : X → Style) (part : Style → X) → ((x : X) → part (make x) ≡ x) → (same : X → X → Bool) → ((x y : X) → IsTrue (same x y) ↔ (x ≡ y)) → (x y : X) → IsTrue (same x y) ↔ (make x ≡ make y)
parts_apart make part is same apart x y = (
  λ h. ap make ((apart x y).0 h),
  λ e. (apart x y).1 (sym (is x) ∙ ap part e ∙ is y),
)

colours_apart : (x y : Colour) → IsTrue (one_colour x y) ↔ (x ≡ y)
colours_apart x y = (same_colour x y, λ e. subst (λ (c : Colour). IsTrue (one_colour x c)) e (equal_colour x))

-- what these are made of, and anything for other styles
text_in : Style → List ℕ
text_in (style.link target) = target
text_in (style.image source) = source
text_in s = []

flag_in : Style → Bool
flag_in (style.preformatted continued) = continued
flag_in s = false

colour_in : Style → Colour
colour_in (style.colour c) = c
colour_in (style.background c) = c
colour_in s = record { r = 0; g = 0; b = 0 }

pub styles_apart : (s t : Style) → IsTrue (same_style s t) ↔ (s ≡ t)
unfolding kind text_in flag_in colour_in
styles_apart style.plain style.plain = (λ _. refl, λ _. refl)
styles_apart (style.link s) (style.link t) =
    parts_apart style.link text_in (λ _. refl) (pointwise nat_eq) (lists_tell nat_eq numbers_tell) s t
styles_apart (style.image s) (style.image t) =
    parts_apart style.image text_in (λ _. refl) (pointwise nat_eq) (lists_tell nat_eq numbers_tell) s t
styles_apart style.emphasis style.emphasis = (λ _. refl, λ _. refl)
styles_apart style.strong style.strong = (λ _. refl, λ _. refl)
styles_apart style.strikeout style.strikeout = (λ _. refl, λ _. refl)
styles_apart style.code style.code = (λ _. refl, λ _. refl)
styles_apart (style.preformatted x) (style.preformatted y) =
    parts_apart style.preformatted flag_in (λ _. refl) beq flags_tell x y
styles_apart (style.colour x) (style.colour y) = parts_apart style.colour colour_in (λ _. refl) one_colour colours_apart x y
styles_apart (style.background x) (style.background y) = parts_apart style.background colour_in (λ _. refl) one_colour colours_apart x y
styles_apart s t = (λ h. absurd (false≢true h), λ e. absurd (of_one_kind s t refl e))

pub copies_equal : (a b : RichAnnotation) → copy.ghosts.is_clone a b → annotation.ghosts.eq a b ≡ true
copies_equal rich.Default rich.Default h = refl
copies_equal (rich.Link s) (rich.Link t) h = equal_text s t (ap chars (sym h))
copies_equal (rich.Image s) (rich.Image t) h = equal_text s t (ap chars (sym h))
copies_equal rich.Emphasis rich.Emphasis h = refl
copies_equal rich.Strong rich.Strong h = refl
copies_equal rich.Strikeout rich.Strikeout h = refl
copies_equal rich.Code rich.Code h = refl
copies_equal (rich.Preformat x) (rich.Preformat y) h = flags_equal x y h
copies_equal (rich.Colour x) (rich.Colour y) h =
    subst (λ (c : Colour). IsTrue (colour.ghosts.eq c y)) h (equal_colour y)
copies_equal (rich.BgColour x) (rich.BgColour y) h =
    subst (λ (c : Colour). IsTrue (colour.ghosts.eq c y)) h (equal_colour y)
copies_equal a b h = absurd h

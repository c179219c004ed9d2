-- A decorator by what its calls give: texts and annotations by its state, and the state that a call leaves.
use Rattle.std.specs.Prelude.{◌≡◌, ◌↔◌, IsTrue, ℕ, Bool, List, Option}
use Rattle.tbr_tagged.specs.Elements.{Element}
use Rattle.tbr_decor.specs.declared.colour.Colour.{Colour}
use Rattle.tbr_decor.specs.Start.{Start}
use Rattle.tbr_decor.specs.End.{End}
use Rattle.tbr_decor.specs.Prefix.{Prefix}
use Rattle.tbr_decor.specs.Ground.{Ground}
use Rattle.tbr_decor.specs.Change.{Change}
use Rattle.tbr_decor.specs.declared.decorator.TextDecorator.{Ghosts}

-- `D` is the state, an annotation means an `M`, and `same` tells whether two are one.
pub record Decoration (D M : Type 0) : Type 0 where
  pub same : M → M → Bool
  pub tells : (a b : M) → IsTrue (same a b) ↔ (a ≡ b)
  pub start_text : D → Start → List ℕ
  pub annotation : D → Start → M
  pub end_text : D → End → List ℕ
  pub preformatted : D → Bool → M
  pub prefix_text : D → Prefix → List ℕ
  pub colour_annotation : D → Ground → Colour → Option M
  pub ends_colour : D → Ground → Bool
  pub subblock : D → D
  pub footnotes : D → List (List ℕ) → List (List (Element M))
  pub after : D → Change → D

-- what a decorator says of its own calls, and how meanings of its annotations are told apart
abbrev pub decoration_of : {D A M : Type 0} → Ghosts D A M → {same : M → M → Bool} →
    ((a b : M) → IsTrue (same a b) ↔ (a ≡ b)) → Decoration D M
decoration_of decorator {same} tells = record {
  same = same;
  tells = tells;
  start_text = decorator.start_text;
  annotation = decorator.annotation;
  end_text = decorator.end_text;
  preformatted = decorator.preformatted;
  prefix_text = decorator.prefix_text;
  colour_annotation = decorator.colour_annotation;
  ends_colour = decorator.ends_colour;
  subblock = decorator.subblock;
  footnotes = decorator.footnotes;
  after = decorator.after;
}

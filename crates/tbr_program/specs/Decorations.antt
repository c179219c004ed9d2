-- The decorators that a script may name.
use Rattle.std.specs.Prelude.{true, false, None, Some, [], refl}
use Rattle.tbr_decor.specs.Decoration.{Decoration}
use Rattle.tbr_decor.specs.Plain as plain
use Rattle.tbr_decor.specs.Trivial as trivial
use Rattle.tbr_decor.specs.Rich as rich
use Rattle.tbr_decor.specs.Style as style
use Rattle.tbr_decor.specs.Usual as usual
use Rattle.tbr_decor.specs.Style.{Style, same_style}
use Rattle.tbr_decor.specs.RichLaws.{styles_apart}
use Rattle.tbr_decor.specs.declared.PlainDecorator.{PlainDecorator}
use Rattle.tbr_decor.specs.declared.TrivialDecorator.{TrivialDecorator}
use Rattle.tbr_decor.specs.declared.RichDecorator.{RichDecorator}

-- texts by characters, and no annotations
abbrev pub plain_decoration : Decoration PlainDecorator (Unit {0})
plain_decoration = record {
  same = λ _ _. true;
  tells = λ _ _. (λ _. refl, λ _. refl);
  start_text = λ _. plain.start_text;
  annotation = λ _ _. tt;
  end_text = λ _. plain.end_text;
  preformatted = λ _ _. tt;
  prefix_text = λ _. plain.prefix_text;
  colour_annotation = λ _ _ _. None;
  ends_colour = λ _ _. false;
  subblock = λ d. d;
  footnotes = λ _. usual.footnotes tt;
  after = λ d _. d;
}

-- no texts but those of superscripts and images, and no annotations
abbrev pub trivial_decoration : Decoration TrivialDecorator (Unit {0})
trivial_decoration = record {
  same = λ _ _. true;
  tells = λ _ _. (λ _. refl, λ _. refl);
  start_text = λ _. trivial.start_text;
  annotation = λ _ _. tt;
  end_text = λ _. trivial.end_text;
  preformatted = λ _ _. tt;
  prefix_text = λ _ _. [];
  colour_annotation = λ _ _ _. None;
  ends_colour = λ _ _. false;
  subblock = λ d. d;
  footnotes = λ _. usual.footnotes tt;
  after = λ d _. d;
}

-- the same texts, and annotations
abbrev pub rich_decoration : Decoration RichDecorator Style
rich_decoration = record {
  same = same_style;
  tells = styles_apart;
  start_text = λ _. trivial.start_text;
  annotation = λ _. rich.annotation;
  end_text = λ _. trivial.end_text;
  preformatted = λ _. style.preformatted;
  prefix_text = λ _. plain.prefix_text;
  colour_annotation = λ _ g colour. Some (rich.coloured g colour);
  ends_colour = λ _ _. true;
  subblock = λ d. d;
  footnotes = λ _. usual.footnotes style.plain;
  after = λ d _. d;
}

use Rattle.tbr_renderer.proofs.Common.{◌≡◌, length, chars}
use denote.Shadow.{shadow}
use denote.Text.{Utf8}
use Rattle.tbr_renderer.proofs.AppendedLines.{HasTexts, prefix_after}
use Rattle.tbr_renderer.proofs.sub.SubRenderer.add_texts_after.Given as goal

abbrev pub invariant-loop-line : goal.invariant-loop-line
invariant-loop-line g l = record {
  texts : HasTexts g.W.CharWidth.columns l.fn.self (chars l.first) (chars l.others) l.yielded l.self;
  prefix : chars l.prefix ≡ prefix_after (chars l.first) (chars l.others) (length l.yielded);
  utf8 : shadow (Utf8 l.prefix);
}

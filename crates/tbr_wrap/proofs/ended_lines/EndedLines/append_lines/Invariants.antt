use Rattle.tbr_wrap.proofs.Common.{◌≡◌, ◌++◌, length, chars_of, prefixed_characters}
use Rattle.std.specs.Prelude.{chars}
use denote.Text.{Utf8}
use denote.Shadow.{shadow}
use Rattle.tbr_wrap.proofs.ended_lines.EndedLines.append_lines.Given as goal

abbrev pub invariant-loop-prefix : goal.invariant-loop-prefix
invariant-loop-prefix g l = record {
  text : chars_of l.text ++ prefixed_characters (chars l.prefix) (chars l.others) l.self ≡ chars_of l.fn.text ++ prefixed_characters (chars l.first) (chars l.others) l.fn.self;
  utf8 : shadow (Utf8 l.prefix);
}

abbrev pub decreases-loop-prefix : goal.decreases-loop-prefix
decreases-loop-prefix g l = length l.self

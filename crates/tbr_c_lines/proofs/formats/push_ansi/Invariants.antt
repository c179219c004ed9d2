use Rattle.std.proofs.Common.{◌≡◌, ◌++◌, take, flat_map}
use Rattle.tbr_tagged.specs.View.{chars_of}
use Rattle.tbr_c_lines.specs.Formats.{ansi_of}
use Rattle.tbr_c_lines.proofs.formats.push_ansi.Given as goal

abbrev pub invariant-loop-piece : goal.invariant-loop-piece
invariant-loop-piece l = chars_of l.text ≡ chars_of l.initial.text ++ flat_map (λ p. ansi_of l.is_bare p.what) (take l.piece-index l.pieces)

use Rattle.std.proofs.Common.{rules}
use Rattle.tbr_c_lines.proofs.Places.{text_piece}
use Rattle.tbr_c_lines.proofs.line.Piece.new.Goals as goal

pub returns-in_ok-annotations-in-Str : goal.returns-in_ok-annotations-in-Str
returns-in_ok-annotations-in-Str g c = search (rules, text_piece, c.in_ok-end-in-Str.ensures, c.as_str.ensures.value, c.in_ok-annotations-in-Str.ensures, c.in-Str.is)

use Rattle.tbr_tagged.proofs.Common.{string_bytes}
use Rattle.std.specs.Str.{chars}
use Rattle.tbr_tagged.proofs.TextColumns.{items_width-text}
use Rattle.tbr_tagged.proofs.element.TaggedLineElement.width.Goals as goal

pub returns-in-Str : goal.returns-in-Str
returns-in-Str g c = rw (c.in-Str.is, items_width-text g.W.CharWidth.columns (chars (string_bytes c.in-Str.piece.s)) c.in-Str.piece.tag) c.width.ensures

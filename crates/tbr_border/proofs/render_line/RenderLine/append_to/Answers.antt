use Rattle.tbr_border.proofs.Common.{items_have_characters}
use Rattle.tbr_border.proofs.render_line.RenderLine.append_to.Goals as goal

pub returns-in-Text : goal.returns-in-Text
returns-in-Text g c =
    rw (c.in-Text.is, items_have_characters c.in-Text.line) c.append_to.ensures

use Rattle.tbr_wrap.proofs.Common.{◌∙◌, ap, list_any, has_character}
use Rattle.tbr_wrap.proofs.lines.CutLines.{lines_any}
use Rattle.tbr_wrap.proofs.ended_lines.EndedLines.has_character.Goals as goal

pub returns : goal.returns
returns g c = rw c.deref.ensures at c.has_placed.ensures ∙ lines_any _ _ _ c.self.invariant.1 ∙ ap (list_any has_character) c.self.view_is

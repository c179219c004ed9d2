use Rattle.tbr_wrap.proofs.Common.{ap, ◌∙◌, lines, left, text_events}
use Rattle.tbr_wrap.proofs.runs.BlockLaws.{text_leaves, flush_leaves, lines_grown, left_grown, left_ended, flush_none, marker_lines}
use Rattle.tbr_wrap.proofs.laws.lines_join_after_those_left.Goals as goal

pub returns : goal.returns
returns g c = record {
  text = λ columns s t cs a b mode sound e.
      let es = text_events cs a b mode in let is = text_leaves columns s t cs a b mode e in let more = lines_grown columns s es in
      (more.0, ap (lines columns) is ∙ more.1, ap (left columns) is ∙ left_grown columns s es sound.within);
  flushed = λ columns s t sound e. let more = left_ended columns s sound.within in (more.0, more.1, ap (left columns) (flush_leaves columns s t e) ∙ more.2);
  blank = flush_none;
  marker = marker_lines;
}

use Rattle.tbr_rows.proofs.Common.{◌∙◌, ap, each_aligned}
use Rattle.tbr_rows.proofs.AlignedLines.{all_aligned}
use Rattle.tbr_rows.proofs.aligned_lines.AlignedLines.new.Goals as goal

pub returns : goal.returns
returns g c =
    ap (each_aligned c.args.align c.args.tag c.args.ended) c.in_ok-missing.ensures.missing ∙ all_aligned c.args.align c.args.tag g.W.CharWidth.columns c.args.width c.args.ended

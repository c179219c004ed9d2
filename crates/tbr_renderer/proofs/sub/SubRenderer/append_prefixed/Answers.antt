use Rattle.tbr_renderer.proofs.Common.{chars, length, decoration_of, handed_out, after_lines, alike}
use Rattle.tbr_renderer.proofs.KeptRefusals.{settled_takes}
use Rattle.tbr_renderer.proofs.sub.SubRenderer.append_prefixed.Goals as goal

pub returns-clause-takes : goal.returns-clause-takes
returns-clause-takes g c =
    let columns = g.W.CharWidth.columns in
    let prefixes = alike (chars c.args.first.now) (chars c.args.others.now) in
    let tried = c.try_append_prefixed-done.ensures in
    settled_takes columns (decoration_of g.D.TextDecorator g.D.Annotation.Tag.tells) c.try_append_prefixed-done.new.self
    c.in_ok-refusal.ensures c.keep.ensures.result c.keep.ensures.ok c.keep.ensures.failed
    (handed_out columns c.args.other) (λ lines. after_lines columns (prefixes (length lines)) lines)
    tried.ok tried.too_narrow tried.two_columns tried.settings

use Rattle.tbr_renderer.proofs.Common.{chars, length, fold, ap, sym, ◌∙◌, done, after_flush, changed, alike, after_lines, handed_out, prefixed, Settings, with_line}
use Rattle.tbr_renderer.proofs.OutcomeParts.{taking_done}
use Rattle.tbr_renderer.proofs.sub.SubRenderer.try_append_prefixed.Goals as goal

pub returns-clause-ok : goal.returns-clause-ok
returns-clause-ok g c =
    let columns = g.W.CharWidth.columns in
    let old = c.args.self.now in
    let flushed = c.try_flush.new.self in
    let lines = c.in_ok-kept.kept in
    let prefixes = alike (chars c.args.first.now) (chars c.args.others.now) in
    let ok = c.in_ok-try_flush.ensures.tries.ok in
    taking_done (after_flush columns) (handed_out columns c.args.other) (λ ls. after_lines columns (prefixes (length ls)) ls) old flushed lines ok c.in_ok-kept.ensures.lines
    ∙ ap (changed (λ m. fold (with_line columns) m (prefixed old.annotations (prefixes (length lines)) lines))) ok
    ∙ ap (λ m. done m) (sym
    (c.in_ok-add_after.ensures.lines
    ∙ ap (λ (s : Settings g.row.D.Denot g.row.D-Annotation-Meaning.Denot). fold (with_line columns) flushed
    (prefixed s.annotations (prefixes (length lines)) lines)) c.in_ok-try_flush.ensures.settings))

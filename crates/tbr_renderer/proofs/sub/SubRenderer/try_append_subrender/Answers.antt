use Rattle.tbr_renderer.proofs.Common.{◌∙◌, ap, sym, fold, done, Settings, with_line, changed, texts_of, prefixed}
use Rattle.tbr_renderer.proofs.sub.SubRenderer.try_append_subrender.Goals as goal

pub returns-clause-ok : goal.returns-clause-ok
returns-clause-ok g c =
    let columns = g.W.CharWidth.columns in
    let old = c.args.self.now in
    let flushed = c.try_flush.new.self in
    let lines = c.in_ok-lines.lines in
    let seen = lines in
    let (given, gives, is) = c.in_ok-add_prefixed.ensures.lines in (
      seen,
      given,
      c.in_ok-lines.ensures.lines,
      gives,
      ap (changed (λ m. fold (with_line columns) m (prefixed old.annotations (texts_of g.P.AsStr.text given) seen))) c.in_ok-try_flush.ensures.tries.ok
          ∙ ap (λ m. done m) (sym
          (is ∙ ap (λ (s : Settings g.row.D.Denot g.row.D-Annotation-Meaning.Denot). fold (with_line columns)
          flushed (prefixed s.annotations (texts_of g.P.AsStr.text given) seen)) c.in_ok-try_flush.ensures.settings)),
    )

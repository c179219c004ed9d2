use Rattle.tbr_wrap.proofs.Common.{◌≡◌, ◌∙◌, sym, Err, err_from_is_err_and, break_word, collapse, unfit_by}
use Rattle.tbr_tagged.specs.declared.error.Error.TheVariants as E
use Rattle.tbr_wrap.proofs.words.ModeCases.{normal_break, normal_kept}
use Rattle.tbr_model.proofs.rule.DoneLines.{collapse_after}
use Rattle.tbr_wrap.proofs.wrapper.Wrapper.enter_normal.Goals as goal

pub returns-then-is_wordbreak_point-clause-entered : goal.returns-then-is_wordbreak_point-clause-entered
returns-then-is_wordbreak_point-clause-entered g c = λ a same before given p s.
    let columns = g.W.CharWidth.columns in
    rw (normal_break columns c.args.self.now.lines.width c.args.c a p (sym c.is_wordbreak_point.ensures ∙ c.if-is_wordbreak_point.true))
    (c.in_ok-collapse.ensures.after_change columns a same before given (break_word columns c.args.self.now.lines.width p) (c.in_ok-break_word.ensures.laid before given p s))

pub returns-in_ok-join-clause-entered : goal.returns-in_ok-join-clause-entered
returns-in_ok-join-clause-entered g c = λ a same before given p s.
    let columns = g.W.CharWidth.columns in
    let is = sym c.width.ensures ∙ c.in-Some.is in
    rw (normal_kept columns c.args.self.now.lines.width c.args.c a p c.in-Some.width (sym c.is_wordbreak_point.ensures ∙ c.if-is_wordbreak_point.false) is)
    (c.in_ok-join.ensures.joined columns a is same before given p s)

pub returns-in_err-break_word-clause-wider : goal.returns-in_err-break_word-clause-wider
returns-in_err-break_word-clause-wider g c = λ a e before given p s.
    let columns = g.W.CharWidth.columns in let width = c.args.self.now.lines.width in
    let q = err_from_is_err_and c.from_residual.result c.from_residual.ensures.1 in
    let is : c.break_word.result ≡ Err E.TooNarrow = cc (q.1, q.2, e, c.in_err-break_word.was) in
    let k = c.break_word.ensures.wider is before given p s in (
      k.0,
      rw (normal_break columns width c.args.c a p
          (sym c.is_wordbreak_point.ensures ∙ c.if-is_wordbreak_point.true))
          (unfit_by columns width (collapse c.args.c a) (collapse_after c.args.c a) (break_word columns width p) k.1),
    )

use Rattle.tbr_wrap.proofs.Common.{◌≡◌, ◌∙◌, sym, Err, rules, err_from_is_err_and, PreWrap, break_word, tag_of, unfit_by}
use Rattle.tbr_tagged.specs.declared.error.Error.TheVariants as E
use Rattle.tbr_model.proofs.rule.DoneLines.{preserve_after}
use Rattle.tbr_wrap.proofs.wrapper.Wrapper.add_char.Goals as goal

pub preserve-requires-then-is_wordbreak_point : goal.preserve-requires-then-is_wordbreak_point
preserve-requires-then-is_wordbreak_point g c = search (rules, c.requires.stands, c.in_ok-break_word-in-PreWrap.ensures.laid)

pub returns-in-Normal-clause-wider : goal.returns-in-Normal-clause-wider
returns-in-Normal-clause-wider g c = λ e before given p s.
    let k = c.enter_normal.ensures.wider (tag_of p c.args.main_tag.now c.args.wrap_tag.now) e before given p s in (k.0, rw c.in-Normal.is k.1)

pub returns-in-Pre-clause-wider : goal.returns-in-Pre-clause-wider
returns-in-Pre-clause-wider g c = λ e before given p s.
    let k = c.preserve.ensures.wider e before given p s in (k.0, rw c.in-Pre.is (rw c.in-Pre.is at k.1))

pub returns-in_err-break_word-in-PreWrap-clause-wider : goal.returns-in_err-break_word-in-PreWrap-clause-wider
returns-in_err-break_word-in-PreWrap-clause-wider g c = λ e before given p s.
    let columns = g.W.CharWidth.columns in let width = c.args.self.now.lines.width in
    let q = err_from_is_err_and c.from_residual.result c.from_residual.ensures.1 in
    let is : c.break_word.result ≡ Err E.TooNarrow = cc (q.1, q.2, e, c.in_err-break_word-in-PreWrap.was) in
    let k = c.break_word.ensures.wider is before given p s in (
      k.0,
      rw (c.in-PreWrap.is, ← c.is_wordbreak_point.ensures, c.if-is_wordbreak_point.true)
          (unfit_by columns width _ (preserve_after columns width c.args.c c.args.main_tag.now c.args.wrap_tag.now PreWrap) (break_word columns width p) k.1),
    )

pub returns-then-is_wordbreak_point-clause-wider : goal.returns-then-is_wordbreak_point-clause-wider
returns-then-is_wordbreak_point-clause-wider g c = λ e before given p s.
    let columns = g.W.CharWidth.columns in let width = c.args.self.now.lines.width in
    let b = c.in_ok-break_word-in-PreWrap.ensures in let q = break_word columns width p in
    let k = c.preserve-then-is_wordbreak_point.ensures.wider e before given q (b.laid before given p s) in
    (sym b.limits.may_overflow ∙ k.0, rw (c.in-PreWrap.is, ← c.is_wordbreak_point.ensures, c.if-is_wordbreak_point.true) (rw (c.in-PreWrap.is, b.limits.width) at k.1))

pub returns-else-is_wordbreak_point-clause-wider : goal.returns-else-is_wordbreak_point-clause-wider
returns-else-is_wordbreak_point-clause-wider g c = λ e before given p s.
    let k = c.preserve-in-PreWrap.ensures.wider e before given p s in
    (k.0, rw (c.in-PreWrap.is, ← c.is_wordbreak_point.ensures, c.if-is_wordbreak_point.false) (rw c.in-PreWrap.is at k.1))

use Rattle.tbr_wrap.proofs.Common.{◌≡◌, refl, ◌∙◌, sym, Err, rules, err_from_is_err_and, tag_of, flush_word, newline, tab, unfit_by}
use Rattle.tbr_tagged.specs.declared.error.Error.TheVariants as E
use Rattle.tbr_wrap.proofs.words.ModeCases.{preserve_newline, preserve_tab, preserve_space, preserve_kept, preserve_none}
use Rattle.tbr_wrap.proofs.runs.LinesLeft.{unfailed}
use Rattle.tbr_model.proofs.rule.DoneLines.{newline_after, tab_after}
use Rattle.tbr_wrap.proofs.wrapper.Wrapper.preserve.Goals as goal

pub returns-then-c-eq10-clause-preserved : goal.returns-then-c-eq10-clause-preserved
returns-then-c-eq10-clause-preserved g c = λ before given p s.
    let columns = g.W.CharWidth.columns in let width = c.args.self.now.lines.width in
    rw (preserve_newline columns width c.args.c c.args.main_tag.now c.args.wrap_tag.now c.args.mode p c.if-c-eq10.true)
    (c.in_ok-newline.ensures.ended columns before given (flush_word columns width p) (c.in_ok-flush_word.ensures.laid before given p s))

pub tab-requires : goal.tab-requires
tab-requires g c =
    let w = c.requires.stands in
    let columns = g.W.CharWidth.columns in
    let laid = flush_word columns c.args.self.now.lines.width w.2 in
    record { stands = (columns, (w.0, w.1, laid, c.in_ok-flush_word-2.ensures.laid w.0 w.1 w.2 w.3)) }

pub returns-then-c-eq9-clause-preserved : goal.returns-then-c-eq9-clause-preserved
returns-then-c-eq9-clause-preserved g c = λ before given p s.
    let columns = g.W.CharWidth.columns in
    let width = c.args.self.now.lines.width in let a = c.args.main_tag.now in let b = c.args.wrap_tag.now in
    let same = c.call_tag-tag.ensures columns before given p s in
    rw (preserve_tab columns width c.args.c a b c.args.mode p c.if-c-eq9.true)
    (rw c.in_ok-flush_word-2.ensures.limits.width at
    (c.in_ok-tab.ensures.put columns (tag_of p a b) (g.met.W.CharWidth.drawn_in_one 32 refl) same before given (flush_word columns width p) (c.in_ok-flush_word-2.ensures.laid before given p s)))

pub returns-in_default-clause-preserved : goal.returns-in_default-clause-preserved
returns-in_default-clause-preserved g c = search (rules, preserve_none, unfailed, c.if-c-eq-ZERO_WIDTH_SPACE.false, c.if-c-eq10.false, c.if-c-eq9.false, c.width.ensures)

pub returns-then-always_takes_space-clause-preserved : goal.returns-then-always_takes_space-clause-preserved
returns-then-always_takes_space-clause-preserved g c = λ before given p s.
    let columns = g.W.CharWidth.columns in
    let is = sym c.width.ensures ∙ c.in-Some.is in
    rw
    (preserve_kept columns c.args.self.now.lines.width c.args.c c.args.main_tag.now c.args.wrap_tag.now c.args.mode
    p c.if-c-eq-ZERO_WIDTH_SPACE.false c.if-c-eq10.false c.if-c-eq9.false c.in-Some.width
    (sym c.always_takes_space.ensures ∙ c.if-always_takes_space.true) is)
    (c.in_ok-keep_character.ensures.kept columns is before given p s)

pub returns-clause-preserved : goal.returns-clause-preserved
returns-clause-preserved g c = λ before given p s.
    let columns = g.W.CharWidth.columns in
    let a = c.args.main_tag.now in let b = c.args.wrap_tag.now in
    let is = sym c.width.ensures ∙ c.in-Some.is in
    let same = c.call_tag-tag.ensures columns before given p s in
    rw
    (preserve_space columns c.args.self.now.lines.width c.args.c a b c.args.mode p c.if-c-eq-ZERO_WIDTH_SPACE.false
    c.if-c-eq10.false c.if-c-eq9.false c.in-Some.width
    (sym c.always_takes_space.ensures ∙ c.if-always_takes_space.false) is)
    (c.in_ok-keep_space.ensures.kept columns (tag_of p a b) is same before given p s)

pub returns-in_err-flush_word-clause-wider : goal.returns-in_err-flush_word-clause-wider
returns-in_err-flush_word-clause-wider g c = λ e before given p s.
    let columns = g.W.CharWidth.columns in let width = c.args.self.now.lines.width in
    let q = err_from_is_err_and c.from_residual.result c.from_residual.ensures.1 in
    let is : c.flush_word.result ≡ Err E.TooNarrow = cc (q.1, q.2, e, c.in_err-flush_word.was) in
    let k = c.flush_word.ensures.wider is before given p s in (
      k.0,
      rw (preserve_newline columns width c.args.c c.args.main_tag.now c.args.wrap_tag.now c.args.mode p
          c.if-c-eq10.true) (unfit_by columns width newline newline_after (flush_word columns width p) k.1),
    )

pub returns-in_err-flush_word-2-clause-wider : goal.returns-in_err-flush_word-2-clause-wider
returns-in_err-flush_word-2-clause-wider g c = λ e before given p s.
    let columns = g.W.CharWidth.columns in let width = c.args.self.now.lines.width in
    let q = err_from_is_err_and c.from_residual-in_err-flush_word-2.result c.from_residual-in_err-flush_word-2.ensures.1 in
    let is : c.flush_word-then-c-eq9.result ≡ Err E.TooNarrow = cc (q.1, q.2, e, c.in_err-flush_word-2.was) in
    let k = c.flush_word-then-c-eq9.ensures.wider is before given p s in (
      k.0,
      rw (preserve_tab columns width c.args.c c.args.main_tag.now c.args.wrap_tag.now c.args.mode p
          c.if-c-eq9.true) (let a = tag_of p c.args.main_tag.now c.args.wrap_tag.now in
          unfit_by columns width (tab width a) (tab_after width a) (flush_word columns width p) k.1),
    )

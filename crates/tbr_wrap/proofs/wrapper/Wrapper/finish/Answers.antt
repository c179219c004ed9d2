use Rattle.tbr_wrap.proofs.Common.{◌≡◌, ◌++◌, refl, ap, ◌∙◌, sym, Err, err_from_is_err_and, end_if_character, flush_word, no_character_after_end, waiting_none, SameItems, joined}
use Rattle.tbr_wrap.proofs.Common.{no_character_no_width, same_has}
use Rattle.tbr_model.proofs.rule.HardLines.{flush_flushes}
use Rattle.tbr_tagged.specs.declared.error.Error.TheVariants as E
use Rattle.tbr_wrap.proofs.lines.HeldLines.{keeps_trans}
use Rattle.tbr_wrap.proofs.words.RunEnds.{run_finished}
use Rattle.tbr_model.proofs.rule.WiderLines.{unfit_end}
use Rattle.tbr_wrap.proofs.wrapper.Wrapper.finish.Goals as goal

pub returns-clause-finished : goal.returns-clause-finished
returns-clause-finished g c = λ before given p s.
    let columns = g.W.CharWidth.columns in let eq = g.T.PartialEq.eq in let b = c.args.self.now in
    let d = c.end_if_character.new.self in let q = flush_word columns b.lines.width p in
    let k = c.in_ok-flush_word.ensures in let f = c.in_ok-end_if_character.ensures in
    let t = k.laid before given p s in let l = f.ended columns before given q.laid t.lays in
    let word : SameItems eq d.flat.word q.word = rw f.flat t.word in
    let u =
    c.in_ok-unplace.ensures (joined (before ++ l.0.laid.done)) l.0.laid.line l.0.holds.placed (sym l.0.holds.len)
    (same_has eq l.0.laid.line (end_if_character q.laid).line l.0.shows.last ∙ no_character_after_end q.laid) in
    run_finished columns eq g.met.T.Eq.laws b _ d before given p l.0 word (waiting_none columns b.lines.width p) (keeps_trans b.lines c.flush_word.new.self.lines d k.limits f.limits)
    (ap (λ x. x.placed) u) (ap (λ x. x.word) u) refl refl refl l.1 (t.word_width ∙ no_character_no_width columns q.word (flush_flushes columns b.lines.width p)) refl refl refl refl

pub returns-in_err-flush_word-clause-wider : goal.returns-in_err-flush_word-clause-wider
returns-in_err-flush_word-clause-wider g c = λ e before given p s.
    let columns = g.W.CharWidth.columns in let width = c.args.self.now.lines.width in
    let q = err_from_is_err_and c.from_residual.result c.from_residual.ensures.1 in
    let is : c.flush_word.result ≡ Err E.TooNarrow = cc (q.1, q.2, e, c.in_err-flush_word.was) in
    let k = c.flush_word.ensures.wider is before given p s in
    (k.0, unfit_end columns width (flush_word columns width p).laid k.1)

use Rattle.tbr_program.proofs.Common.{◌≡◌, ◌==◌, true, false, None, Err, map, length, sym, ap, ◌∙◌, err_from_is_err_and, chars_of, decoration_of, handed_out, start_block, after}
use Rattle.tbr_tagged.specs.declared.Error.TheVariants.{TooNarrow}
use Rattle.tbr_renderer.proofs.Settings.{call_beside}
use Rattle.tbr_program.proofs.Notes.{closed_without, closed_with, closing_refused, unfailed}
use Rattle.tbr_program.proofs.closing.with_footnotes.Goals as goal

pub returns-then-is_empty-clause-noted : goal.returns-then-is_empty-clause-noted
returns-then-is_empty-clause-noted g c =
    let meaning = g.D.Annotation.Tag.meaning in
    let columns = g.W.CharWidth.columns in
    let targets = map chars_of c.args.targets.items in
    let notes = c.in_ok-footnotes.footnotes in
    let none : (length notes.items == 0) ≡ true = ap (λ n. n == 0) (sym notes.ok.0) ∙ sym c.if-is_empty.ensures in
    ap (λ r. handed_out columns r) c.in_ok-footnotes.ensures.asked
    ∙ closed_without columns (decoration_of g.D.TextDecorator g.D.Annotation.Tag.tells) targets c.args.renderer c.requires meaning notes.items c.in_ok-footnotes.ensures.lines none

pub returns-then-is_empty-clause-live : goal.returns-then-is_empty-clause-live
returns-then-is_empty-clause-live g c = ap (λ r. r.failure) c.in_ok-footnotes.ensures.asked ∙ c.requires

pub returns-in_err-start_block-clause-too_narrow : goal.returns-in_err-start_block-clause-too_narrow
returns-in_err-start_block-clause-too_narrow g c = λ narrow.
    let columns = g.W.CharWidth.columns in
    let decoration = decoration_of g.D.TextDecorator g.D.Annotation.Tag.tells in
    let p = err_from_is_err_and c.from_residual-in_err-start_block.result c.from_residual-in_err-start_block.ensures.1 in
    let is : c.in_err-start_block.field-0.0 ≡ TooNarrow = cc (p.1, p.2, narrow) in
    let refuses = ap (λ r. after columns decoration start_block r) (sym c.in_ok-footnotes.ensures.asked) ∙ c.start_block.ensures.answers.too_narrow (c.in_err-start_block.was ∙ ap Err is) in
    closing_refused columns decoration (map chars_of c.args.targets.items) c.args.renderer c.requires refuses

pub returns-in_err-fmt_links-clause-too_narrow : goal.returns-in_err-fmt_links-clause-too_narrow
returns-in_err-fmt_links-clause-too_narrow g c = λ narrow.
    let beside = call_beside g.W.CharWidth.columns (decoration_of g.D.TextDecorator g.D.Annotation.Tag.tells)
    start_block c.finalise.new.self c.start_block.new.self c.in_ok-start_block.ensures.answers.ok in
    let live : c.start_block.new.self.failure ≡ None = beside.0 ∙ ap (λ r. r.failure) c.in_ok-footnotes.ensures.asked ∙ c.requires in
    let p = err_from_is_err_and c.from_residual-in_err-fmt_links.result c.from_residual-in_err-fmt_links.ensures.1 in
    let is : c.in_err-fmt_links.field-0.0 ≡ TooNarrow = cc (p.1, p.2, narrow) in
    absurd (c.fmt_links.ensures.memory live (c.in_err-fmt_links.was ∙ ap Err is))

pub returns-clause-noted : goal.returns-clause-noted
returns-clause-noted g c =
    let meaning = g.D.Annotation.Tag.meaning in
    let columns = g.W.CharWidth.columns in
    let decoration = decoration_of g.D.TextDecorator g.D.Annotation.Tag.tells in
    let notes = c.in_ok-footnotes.footnotes in
    let begun = c.start_block.new.self in
    let some : (length notes.items == 0) ≡ false = ap (λ n. n == 0) (sym notes.ok.0) ∙ sym c.if-is_empty.ensures in
    let starts = ap (λ r. after columns decoration start_block r) (sym c.in_ok-footnotes.ensures.asked) ∙ c.in_ok-start_block.ensures.answers.ok in
    closed_with columns decoration (map chars_of c.args.targets.items) c.args.renderer c.requires meaning notes.items
    begun c.fmt_links.new.self starts c.in_ok-fmt_links.ensures.ok c.in_ok-footnotes.ensures.lines some

pub returns-clause-live : goal.returns-clause-live
returns-clause-live g c =
    let meaning = g.D.Annotation.Tag.meaning in
    let columns = g.W.CharWidth.columns in
    let decoration = decoration_of g.D.TextDecorator g.D.Annotation.Tag.tells in
    let begun = c.start_block.new.self in
    let beside = call_beside columns decoration start_block c.finalise.new.self begun c.in_ok-start_block.ensures.answers.ok in
    let live : c.start_block.new.self.failure ≡ None = beside.0 ∙ ap (λ r. r.failure) c.in_ok-footnotes.ensures.asked ∙ c.requires in
    unfailed columns meaning c.in_ok-footnotes.footnotes.items begun c.fmt_links.new.self c.in_ok-fmt_links.ensures.ok live

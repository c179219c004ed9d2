use Rattle.tbr_wrap.proofs.Common.{chars, refl, sym, ◌∙◌, arith, nil_from_length, tag_of, same_has}
use Rattle.tbr_wrap.proofs.words.PlainText.{all_join}
use Rattle.tbr_wrap.proofs.words.TagRoom.{stays_under}
use Rattle.tbr_wrap.proofs.wrapper.Wrapper.add_stretch.Goals as goal

pub returns-then-count-eq0-clause-entered : goal.returns-then-count-eq0-clause-entered
returns-then-count-eq0-clause-entered g c = λ before given p s.
    let none = nil_from_length (chars c.args.text.now) (sym c.requires.count ∙ c.if-count-eq0.true) in rw none s

pub returns-clause-entered : goal.returns-clause-entered
returns-clause-entered g c = λ before given p s.
    let columns = g.W.CharWidth.columns in let eq = g.T.PartialEq.eq in let cs = chars c.args.text.now in
    let old = c.args.self.now in let a = c.args.main_tag.now in let b = c.args.wrap_tag.now in
    let mode = c.args.mode in let width = c.requires.width in
    let stays = rw width at (stays_under columns eq old before given p mode c.args.width s (c.requires.tag (omega (arith, c.if-count-eq0.false)))) in
    let join = rw (same_has eq old.lines.flat.word p.word s.word) at c.requires.join in
    rw (all_join columns old.lines.width a b mode (g.met.W.CharWidth.drawn_in_one 32 refl) cs p join stays)
    (c.join_text.ensures.joined columns (tag_of p a b) width (c.call_tag-tag.ensures columns before given p s) before given p s)

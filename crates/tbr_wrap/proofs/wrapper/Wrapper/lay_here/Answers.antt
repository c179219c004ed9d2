use Rattle.tbr_wrap.proofs.Common.{refl, sym, ◌∙◌, rules, [], items_width, extended, space_text, pending_width, SameItems, extended_twice}
use Rattle.tbr_wrap.proofs.wrapper.Wrapper.lay_here.Goals as goal

pub returns-clause-laid : goal.returns-clause-laid
returns-clause-laid g c = λ before given p s.
    let columns = g.W.CharWidth.columns in let eq = g.T.PartialEq.eq in
    let t = c.in_ok-place_pending.ensures.placed before given p s in
    let r = extended p.laid (space_text p.space) (pending_width p.space) in
    let k = c.in_ok-place_word.ensures in
    let laid = k.placed columns p.word t.word (sym t.word_width ∙ sym c.replace-width.ensures.value) before given r t.lays in
    let lays = rw (extended_twice p.laid (space_text p.space) p.word (pending_width p.space) (items_width columns p.word) _ refl) at laid in
    let word : SameItems eq c.place_word.new.self.flat.word [] = rw k.word tt in
    search (rules, lays, word, c.replace-width.ensures.after)

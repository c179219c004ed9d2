use Rattle.tbr_wrap.proofs.Common.{◌≡◌, ◌<◌, ◌++◌, if◌then◌else◌, chars, length, refl, ap, ◌∙◌, arith, has_character, items_width, extended, space_text, pending_width, Normal, extended_twice}
use Rattle.tbr_wrap.proofs.Common.{items_width-append, text_items, items_width-text}
use Rattle.tbr_wrap.proofs.words.PlainText.{joined_text}
use Rattle.tbr_wrap.proofs.wrapper.Wrapper.lay_with.Goals as goal

pub returns-clause-laid : goal.returns-clause-laid
returns-clause-laid g c = λ a wide same before given p s.
    let columns = g.W.CharWidth.columns in let eq = g.T.PartialEq.eq in
    let cs = chars c.args.text.now in let is = p.word ++ text_items cs a in
    let some : 0 < length cs = omega (arith, c.requires.count, c.requires.some) in
    let t = c.in_ok-place_pending.ensures.placed before given p s in
    let r = extended p.laid (space_text p.space) (pending_width p.space) in
    let k = c.in_ok-place_with.ensures in
    let width : items_width columns is ≡ c.in-Some.width =
    omega (arith, s.word_width, wide, items_width-append columns p.word (text_items cs a), items_width-text columns cs a, c.in-Some.ensures) in
    let laid = k.placed columns a p.word same t.word width before given r t.lays in
    rw (joined_text cs a Normal p some)
    (record {
      lays = rw (extended_twice p.laid (space_text p.space) is (pending_width p.space) (items_width columns is) _ refl) at laid;
      space = t.space;
      word = rw k.word tt;
      word_width = refl;
      mode = c.mode_with-word_mode.ensures p.word s.word ∙ ap (λ m. if has_character p.word then m else Normal) s.mode;
      continuation_flag = refl;
      in_continuation = t.in_continuation;
    })

use Rattle.tbr_wrap.proofs.Common.{◌≡◌, ◌≤◌, ◌+◌, ◌++◌, ◌∷◌, [], ◌∙◌, sym, ap, chars, length, arith, refl, length-append, rules, chars-IsAscii, Normal, tag_of, pending_width, lay_here, items_width}
use Rattle.tbr_wrap.proofs.Common.{width_of_text, join_all, same_has}
use Rattle.tbr_wrap.proofs.words.PlainWords.{words_laid, words_ascii, words_width, words_front, all_ascii}
use Rattle.tbr_wrap.proofs.words.WordsLaid.{same_held_width}
use Rattle.tbr_wrap.proofs.wrapper.Wrapper.add_words.Goals as goal

pub lay_with-requires-clause-count : goal.lay_with-requires-clause-count
lay_with-requires-clause-count g c = search (rules, words_front, chars-IsAscii, words_ascii, c.requires.words, c.range-words.ensures.value)

pub returns-clause-entered : goal.returns-clause-entered
returns-clause-entered g c = λ before given p s.
    let columns = g.W.CharWidth.columns in let eq = g.T.PartialEq.eq in let a = c.args.main_tag.now in
    let b = c.args.wrap_tag.now in let t = tag_of p a b in let text = c.args.text.now in
    let old = c.args.self.now in let w = c.requires.words in
    let is = c.range-words.ensures.value ∙ words_front columns text w in
    let words : chars c.range-words.result.now ≡ w.front = ap chars is ∙ chars-IsAscii w.front (words_ascii columns _ w.front _ w.read) in
    let whole : chars text ≡ w.front ++ 32 ∷ [] = chars-IsAscii text (all_ascii columns text w) ∙ w.is in
    let wide : length c.range-words.result.now ≡ width_of_text columns (chars c.range-words.result.now) =
    ap length is ∙ sym (words_width columns (g.met.W.CharWidth.drawn_in_one 32 refl) _ w.front _ w.read)
    ∙ sym (ap (width_of_text columns) words) in
    let same = c.call_tag-tag.ensures columns before given p s in
    let laid = c.in_ok-lay_with.ensures.laid t wide same before given p s in
    let collapsed = c.collapse.ensures.after_change columns t same before given (lay_here columns (join_all (chars c.range-words.result.now) t Normal p)) laid in
    let fits : p.laid.width + (pending_width p.space + (items_width columns p.word + length w.front)) ≤
    old.lines.width = omega (
      arith,
      ap length w.is,
      length-append w.front (32 ∷ []),
      c.requires.room,
      s.word_width,
      s.lays.holds.width,
      s.lays.shows.width,
      same_held_width eq old.space p.space s.space,
    ) in
    let entered = words_laid columns (g.met.W.CharWidth.drawn_in_one 32 refl) old.lines.width a b w.front p w.read (sym (same_has eq old.lines.flat.word p.word s.word) ∙ c.requires.word) fits in
    rw (whole, entered, ← words) collapsed

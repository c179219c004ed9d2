use Rattle.tbr_wrap.proofs.Common.{◌≡◌, ◌++◌, ◌∷◌, [], None, false, ◌∙◌, sym, ap, chars, length, arith, refl, length-append, chars-IsAscii, end_if_character, same_has}
use Rattle.tbr_wrap.proofs.words.PlainWords.{words_moved, all_ascii}
use Rattle.tbr_wrap.proofs.words.WordsLaid.{same_held_width, drops_pending, spaced_stands, stands_laid}
use Rattle.tbr_wrap.proofs.wrapper.Wrapper.move_words.Goals as goal

pub add_words-requires-clause-room : goal.add_words-requires-clause-room
add_words-requires-clause-room g c =
    let w = c.requires.stands in let k = c.in_ok-end_if_character.ensures in
    omega (arith, (k.ended g.W.CharWidth.columns w.0 w.1 w.2.laid w.3.lays).1, k.limits.width, c.requires.moved.fits)

pub returns-clause-entered : goal.returns-clause-entered
returns-clause-entered g c = λ before given p s.
    let columns = g.W.CharWidth.columns in let eq = g.T.PartialEq.eq in let a = c.args.main_tag.now in
    let d = c.args.wrap_tag.now in let text = c.args.text.now in
    let b = c.args.self.now in let m = c.requires.moved in let w = m.words in
    let k = c.in_ok-end_if_character.ensures in let q = record p { laid = end_if_character p.laid; space = None } in
    let e = k.ended columns before given p.laid s.lays in
    let t =
    stands_laid columns eq (record b { space = None }) c.end_if_character.new.self before given
    (record p { space = None }) (end_if_character p.laid)
    (spaced_stands columns eq b None before given p None s tt) e.0 (rw k.flat s.word) in
    let none = sym (same_has eq b.lines.flat.word p.word s.word) ∙ c.requires.word in
    let same = words_moved columns (g.met.W.CharWidth.drawn_in_one 32 refl) b.lines.width a d false w.front m.first p
    w.read none (drops_pending eq b.space p.space s.space m.space) (omega (arith, e.1, e.0.holds.width, e.0.shows.width))
    (rw w.is at m.letters)
    (omega (arith, m.wide, s.word_width, s.lays.holds.width, s.lays.shows.width, same_held_width eq b.space p.space s.space))
    (omega (arith, m.fits, s.word_width, ap length w.is, length-append w.front (32 ∷ []))) in
    let whole : chars text ≡ w.front ++ 32 ∷ [] = chars-IsAscii text (all_ascii columns text w) ∙ w.is in
    rw (whole, same) (rw (k.limits.width, whole) at (c.add_words.ensures.entered before given q t))

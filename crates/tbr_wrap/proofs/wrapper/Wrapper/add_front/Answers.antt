use Rattle.tbr_wrap.proofs.Common.{◌≡◌, ℕ, false, [], ◌∷◌, subst, fold, chars, take, ap, sym, ◌∙◌, arith, length-take-le, Err, rules, err_from_is_err_and, IsUtf8-from_ascii, IsCharBoundary-from_take}
use Rattle.tbr_wrap.proofs.Common.{lines_fit, Progress, enter, character, text_entries, IsAtProgress}
use Rattle.tbr_tagged.specs.declared.error.Error.TheVariants as E
use Rattle.tbr_flat.proofs.TextBytes.{chars_within}
use Rattle.tbr_wrap.proofs.words.Letters.{ascii_front, next_letter, entered_on, unfit_on}
use Rattle.tbr_wrap.proofs.words.PlainWords.{all_ascii}
use Rattle.tbr_wrap.proofs.wrapper.Wrapper.add_front.Goals as goal

pub range-requires-clause-end_boundary : goal.range-requires-clause-end_boundary
range-requires-clause-end_boundary g c =
    let text = c.args.text.now in let n = c.fitting_words-words.result.0 in let k = c.fitting_words-words.ensures in
    IsCharBoundary-from_take text n c.utf8.text k.within (IsUtf8-from_ascii (take n text) (all_ascii g.W.CharWidth.columns (take n text) (k.words (omega (arith, c.if-words-gt0.true)))))

pub returns-then-words-gt0-clause-front : goal.returns-then-words-gt0-clause-front
returns-then-words-gt0-clause-front g c = search (rules, ascii_front, all_ascii, c.fitting_words-words.ensures, c.if-words-gt0.true)

pub returns-then-words-gt0-clause-entered : goal.returns-then-words-gt0-clause-entered
returns-then-words-gt0-clause-entered g c = λ before given p s.
    let text = c.args.text.now in let n = c.fitting_words-words.result.0 in
    let words : c.range.result.now ≡ take n text = c.range.ensures.value ∙ ap (λ m. take m text) (omega arith) in
    rw (sym words, c.fitting_words-words.ensures.mode (omega (arith, c.if-words-gt0.true))) (c.in_ok-add_words.ensures.entered before given p s)

pub range-requires-then-moved-gt0-clause-end_boundary : goal.range-requires-then-moved-gt0-clause-end_boundary
range-requires-then-moved-gt0-clause-end_boundary g c =
    let text = c.args.text.now in let n = c.moved_words-moved.result in let k = c.moved_words-moved.ensures in
    IsCharBoundary-from_take text n c.utf8.text k.within (IsUtf8-from_ascii (take n text) (all_ascii g.W.CharWidth.columns (take n text) (k.moved (omega (arith, c.if-moved-gt0.true))).words))

pub returns-then-moved-gt0-clause-front : goal.returns-then-moved-gt0-clause-front
returns-then-moved-gt0-clause-front g c =
    let text = c.args.text.now in let n = c.moved_words-moved.result in let k = c.moved_words-moved.ensures in
    ascii_front text n k.within (all_ascii g.W.CharWidth.columns (take n text) (k.moved (omega (arith, c.if-moved-gt0.true))).words)

pub returns-then-moved-gt0-clause-entered : goal.returns-then-moved-gt0-clause-entered
returns-then-moved-gt0-clause-entered g c = λ before given p s.
    let text = c.args.text.now in let n = c.moved_words-moved.result in
    let words : c.range-then-moved-gt0.result.now ≡ take n text = c.range-then-moved-gt0.ensures.value ∙ ap (λ m. take m text) (omega arith) in
    rw (sym words, c.moved_words-moved.ensures.mode (omega (arith, c.if-moved-gt0.true))) (c.in_ok-move_words.ensures.entered before given p s)

pub range-front-requires-clause-end_boundary : goal.range-front-requires-clause-end_boundary
range-front-requires-clause-end_boundary g c = search (rules, IsCharBoundary-from_take, c.fitting_stretch-s.ensures.stretch.front)

pub range_from-requires : goal.range_from-requires
range_from-requires g c = λ some. let f = c.fitting_stretch-s.ensures.stretch.front in IsCharBoundary-from_take c.args.text.now c.fitting_stretch-s.result.bytes c.utf8.text f.within f.utf8

pub returns-in_default-clause-entered : goal.returns-in_default-clause-entered
returns-in_default-clause-entered g c = λ before given p s.
    let text = c.args.text.now in
    let front : c.range-front.result.now ≡ take c.fitting_stretch-s.result.bytes text = c.range-front.ensures.value ∙ ap (λ m. take m text) (omega arith) in
    rw (sym front) (c.in_ok-add_stretch.ensures.entered before given p s)

pub add_char-requires : goal.add_char-requires
add_char-requires g c = let w = c.requires.stands in record { stands = (w.0, w.1, _, c.in_ok-add_stretch.ensures.entered w.0 w.1 w.2 w.3) }

pub overflow_add-result-2 : goal.overflow_add-result-2
overflow_add-result-2 g c =
    let text = c.args.text.now in let n = c.fitting_stretch-s.result.bytes in let f = c.fitting_stretch-s.ensures.stretch.front in
    omega (arith, f.number, chars_within (take n text) f.utf8, length-take-le n text f.within)

pub returns-clause-front : goal.returns-clause-front
returns-clause-front g c =
    let is = sym c.range_from.ensures.value ∙ sym c.chars.ensures.rest ∙ c.in-Some.ensures.steps.0 in
    rw c.len_utf8.ensures.value
    ((next_letter c.args.text.now c.next.new.self.rest.now c.fitting_stretch-s.result.bytes
    c.fitting_stretch-s.result.count c.in-Some.c c.utf8.text c.fitting_stretch-s.ensures.stretch.front is).front)

pub returns-clause-entered : goal.returns-clause-entered
returns-clause-entered g c = λ before given p s.
    let columns = g.W.CharWidth.columns in let width = c.args.self.now.lines.width in
    let main = c.args.main_tag.now in let wrap = c.args.wrap_tag.now in let mode = c.args.mode in
    let text = c.args.text.now in let n = c.fitting_stretch-s.result.bytes in
    let is = sym c.range_from.ensures.value ∙ sym c.chars.ensures.rest ∙ c.in-Some.ensures.steps.0 in
    let k = next_letter text c.next.new.self.rest.now n c.fitting_stretch-s.result.count c.in-Some.c c.utf8.text c.fitting_stretch-s.ensures.stretch.front is in
    let q : Progress g.row.T.Denot = fold (enter columns width) p (text_entries (chars (take n text)) main wrap mode) in
    let front : c.range-front.result.now ≡ take n text = c.range-front.ensures.value ∙ ap (λ m. take m text) (omega arith) in
    let r = c.in_ok-add_stretch.ensures in
    let t : IsAtProgress columns g.T.PartialEq.eq c.add_stretch.new.self before given q = rw front at (r.entered before given p s) in
    let added =
    subst
    (λ (w : ℕ). IsAtProgress columns g.T.PartialEq.eq c.add_char.new.self before given
    (enter columns w q (character c.in-Some.c main wrap mode))) r.limits.width
    (c.in_ok-add_char.ensures.entered before given q t) in
    rw (c.len_utf8.ensures.value, k.letters, entered_on columns width main wrap mode (chars (take n text)) (c.in-Some.c ∷ []) p) added

pub returns-in_err-add_char-clause-wider : goal.returns-in_err-add_char-clause-wider
returns-in_err-add_char-clause-wider g c = λ e before given p s.
    let columns = g.W.CharWidth.columns in let width = c.args.self.now.lines.width in
    let main = c.args.main_tag.now in let wrap = c.args.wrap_tag.now in let mode = c.args.mode in
    let text = c.args.text.now in let n = c.fitting_stretch-s.result.bytes in let rest = c.next.new.self.rest.now in
    let is = sym c.range_from.ensures.value ∙ sym c.chars.ensures.rest ∙ c.in-Some.ensures.steps.0 in
    let k = next_letter text rest n c.fitting_stretch-s.result.count c.in-Some.c c.utf8.text c.fitting_stretch-s.ensures.stretch.front is in
    let q : Progress g.row.T.Denot = fold (enter columns width) p (text_entries (chars (take n text)) main wrap mode) in
    let front : c.range-front.result.now ≡ take n text = c.range-front.ensures.value ∙ ap (λ m. take m text) (omega arith) in
    let r = c.in_ok-add_stretch.ensures in
    let t : IsAtProgress columns g.T.PartialEq.eq c.add_stretch.new.self before given q = rw front at (r.entered before given p s) in
    let o = err_from_is_err_and c.from_residual-in_err-add_char.result c.from_residual-in_err-add_char.ensures.1 in
    let refused : c.add_char.result ≡ Err E.TooNarrow = cc (o.1, o.2, e, c.in_err-add_char.was) in
    let w = c.add_char.ensures.wider refused before given q t in
    let wide = subst (λ (v : ℕ). lines_fit columns v (enter columns v q (character c.in-Some.c main wrap mode)).laid.done ≡ false) r.limits.width w.1 in
    (sym r.limits.may_overflow ∙ w.0, unfit_on columns width main wrap mode (chars (take n text)) (chars rest) (chars text) c.in-Some.c p k.whole wide)

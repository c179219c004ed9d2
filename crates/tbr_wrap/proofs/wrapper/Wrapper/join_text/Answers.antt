use Rattle.tbr_wrap.proofs.Common.{◌<◌, if◌then◌else◌, chars, length, refl, ap, ◌∙◌, arith, has_character, items_width-append, text_items, same_items_append, same_texts, items_width-text}
use Rattle.tbr_wrap.proofs.lines.HeldLines.{holds_same}
use Rattle.tbr_wrap.proofs.lines.LaidByRule.{lays_same}
use Rattle.tbr_wrap.proofs.words.PlainText.{joined_text}
use Rattle.tbr_wrap.proofs.wrapper.Wrapper.join_text.Goals as goal

pub returns-clause-joined : goal.returns-clause-joined
returns-clause-joined g c = λ columns a wide same before given p s.
    let eq = g.T.PartialEq.eq in let laws = g.met.T.Eq.laws in let old = c.args.self.now in
    let cs = chars c.args.text.now in let k = c.in_ok-push_text.ensures in
    let some : 0 < length cs = omega (arith, c.requires.count, c.requires.some) in
    rw (joined_text cs a c.args.mode p some)
    (record {
      lays = lays_same columns eq laws old.lines _ (record { width = refl; may_overflow = refl }) before given p.laid s.lays
          (holds_same old.lines _ before s.lays.laid s.lays.holds (ap (λ f. f.placed) k.2) refl refl refl refl);
      space = s.space;
      word = rw k.2 (same_items_append eq laws old.lines.flat.word p.word (text_items cs k.0) (text_items cs a) s.word (same_texts eq laws cs k.0 a (laws.congr k.0 c.args.tag.now a k.1 ∙ same)));
      word_width = omega (arith, c.in-Some.ensures, s.word_width, wide, items_width-append columns p.word (text_items cs a), items_width-text columns cs a);
      mode = c.mode_with-word_mode.ensures p.word s.word ∙ ap (λ m. if has_character p.word then m else c.args.mode) s.mode;
      continuation_flag = s.continuation_flag;
      in_continuation = s.in_continuation;
    })

use Rattle.tbr_wrap.proofs.Common.{◌≡◌, if◌then◌else◌, ◌+◌, [], ◌∷◌, refl, ap, ◌∙◌, arith, unwrap_or, glyph, items_width, has_character, same_items_append, items_width-append}
use Rattle.tbr_wrap.proofs.lines.HeldLines.{holds_same}
use Rattle.tbr_wrap.proofs.lines.LaidByRule.{lays_same}
use Rattle.tbr_wrap.proofs.wrapper.Wrapper.join.Goals as goal

pub returns-clause-joined : goal.returns-clause-joined
returns-clause-joined g c = λ columns a wide same before given p s.
    let eq = g.T.PartialEq.eq in let laws = g.met.T.Eq.laws in let k = c.in_ok-push.ensures in
    record {
      lays = lays_same columns eq laws c.args.self.now.lines _ (record { width = refl; may_overflow = refl }) before given p.laid s.lays
          (holds_same c.args.self.now.lines _ before s.lays.laid s.lays.holds (ap (λ f. f.placed) k.2) refl refl refl refl);
      space = s.space;
      word =
          rw k.2
          (same_items_append eq laws c.args.self.now.lines.flat.word p.word (glyph c.args.c k.0 ∷ []) (glyph c.args.c a ∷ []) s.word ((refl, laws.congr k.0 c.args.tag.now a k.1 ∙ same), tt));
      word_width = (let e : c.in-Some.word_width ≡ items_width columns p.word + c.args.width = omega (arith, c.in-Some.ensures, s.word_width) in
          e
          ∙ (let w : items_width columns (glyph c.args.c a ∷ []) ≡ c.args.width =
          omega (arith, ap (λ o. unwrap_or o 0) wide) in omega (arith, w, items_width-append columns p.word (glyph c.args.c a ∷ []))));
      mode = c.mode_with-word_mode.ensures p.word s.word ∙ ap (λ m. if has_character p.word then m else c.args.mode) s.mode;
      continuation_flag = s.continuation_flag;
      in_continuation = s.in_continuation;
    }

use Rattle.tbr_wrap.proofs.Common.{◌≡◌, ◌++◌, take, refl, ap, ◌∙◌, arith, item_width}
use Rattle.tbr_wrap.proofs.lines.HeldLines.{holds_wide}
use Rattle.tbr_wrap.proofs.lines.LaidByRule.{lays_wide, same_first}
use Rattle.tbr_wrap.proofs.laid_lines.LaidLines.place_wide.Goals as goal

pub returns-clause-placed : goal.returns-clause-placed
returns-clause-placed g c = λ j js same wide before given r h.
    let columns = g.W.CharWidth.columns in let eq = g.T.PartialEq.eq in let old = c.args.self.now in
    let w = same_first eq old.flat.word js j same in let e = c.in_ok-place_front.ensures in
    let one : c.in_ok-place_front.field-0.count ≡ 1 = omega (arith, e.most, e.some c.requires.some (omega (arith, c.requires.width))) in
    let placed = ap (λ f. f.placed) e.placed ∙ ap (λ n. old.flat.placed ++ take n old.flat.word) one ∙ ap (λ is. old.flat.placed ++ take 1 is) w.2 in
    lays_wide columns eq g.met.T.Eq.laws old _ (record { width = refl; may_overflow = refl }) before given r h w.0 j w.3 c.requires.may c.requires.blank wide
    (holds_wide old _ before h.laid w.0 (item_width columns j) c.in-Some.line_len h.holds placed (omega (arith, c.in-Some.ensures)) c.in_ok-push_back.ensures.items refl refl c.requires.blank)

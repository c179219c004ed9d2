use Rattle.tbr_wrap.proofs.Common.{refl, ◌∙◌, sym, arith, spaces}
use Rattle.tbr_wrap.proofs.lines.HeldLines.{holds_more}
use Rattle.tbr_wrap.proofs.lines.CountedMarkers.{spaces_markers}
use Rattle.tbr_wrap.proofs.lines.LaidByRule.{lays_extended, same_spaces, spaces_width, spaces_length}
use Rattle.tbr_wrap.proofs.laid_lines.LaidLines.place_spaces.Goals as goal

pub returns-clause-placed : goal.returns-clause-placed
returns-clause-placed g c = λ columns a one same before given r h.
    let eq = g.T.PartialEq.eq in let laws = g.met.T.Eq.laws in let p = c.in_ok-push_spaces.ensures.placed in
    let n = c.args.count in
    lays_extended columns eq laws c.args.self.now _ (record { width = refl; may_overflow = refl }) before given r h (spaces n p.0) (spaces n a) n
    (same_spaces eq n p.0 a (laws.congr p.0 c.args.tag a p.1 ∙ same)) (sym (spaces_width columns one n a)) c.requires.room
    (holds_more c.args.self.now _ before h.laid (spaces n p.0) n h.holds p.2 refl (omega (arith, c.in-Some.ensures, c.in-Some.is, spaces_length n p.0)) (omega (arith, spaces_markers n p.0)) refl)

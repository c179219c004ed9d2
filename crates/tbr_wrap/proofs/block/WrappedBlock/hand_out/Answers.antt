use Rattle.tbr_wrap.proofs.Common.{[], ◌∷◌, ◌++◌, drop, ap, ◌∙◌, sym, subst, arith, append_assoc, append-nil, refl, rules, Block, Settings, left, ShowsText, all_zip_append}
use Rattle.tbr_wrap.proofs.runs.LinesLeft.{handed_keeps, left_after}
use Rattle.tbr_wrap.proofs.runs.BlockLaws.{HandsOne, one_handed, none_handed}
use Rattle.tbr_wrap.proofs.block.WrappedBlock.hand_out.Given.{Over}
use Rattle.tbr_wrap.proofs.block.WrappedBlock.hand_out.Goals.{In-Some}
use Rattle.tbr_wrap.proofs.block.WrappedBlock.hand_out.Goals as goal

-- the line that was handed out
one : (g : Over) (c : In-Some g) → HandsOne g.W.CharWidth.columns g.T.PartialEq.eq c.loop-lines.self c.in-Some.line c.next_line.new.self
one g c = search (rules, one_handed, c.in_ok-line.ensures.answers.ok, c.in-Some.is, c.in_ok-line.ensures.line)

pub loop-lines-init : goal.loop-lines-init
loop-lines-init g c = (c.requires.live, refl, refl, [], refl, rw c.new-lines.ensures.items tt)

pub loop-lines-smaller : goal.loop-lines-smaller
loop-lines-smaller g c = grind (arith, one, In-Some, left_after)

pub loop-lines-preserved : goal.loop-lines-preserved
loop-lines-preserved g c =
    let columns = g.W.CharWidth.columns in let block = c.loop-lines.self in
    let shows = ShowsText columns g.T.PartialEq.eq c.args.self.now.padding c.args.self.now.width in
    let inv = c.loop-lines.invariant in let f = one g (goal.at.loop-lines-preserved g c).In-Some in
    let gone = ap (left columns) f.leaves ∙ left_after block columns ∙ ap (drop 1) f.left_is in
    let line : shows c.in-Some.line f.text =
    subst (λ o. ShowsText columns g.T.PartialEq.eq o c.args.self.now.width c.in-Some.line f.text) inv.1
    (subst (λ n. ShowsText columns g.T.PartialEq.eq block.padding n c.in-Some.line f.text) inv.2 f.shows) in (
      ap (λ (s : Block g.row.T.Denot). s.failure) f.leaves ∙ (handed_keeps block).0 ∙ inv.0,
      ap (λ (s : Block g.row.T.Denot). s.padding) f.leaves ∙ ap (λ (k : Settings g.row.T.Denot). k.padding) (handed_keeps block).1 ∙ inv.1,
      ap (λ (s : Block g.row.T.Denot). s.width) f.leaves ∙ ap (λ (k : Settings g.row.T.Denot). k.width) (handed_keeps block).1 ∙ inv.2,
      inv.3 ++ f.text ∷ [],
      inv.4 ∙ ap (λ ls. inv.3 ++ ls) f.left_is ∙ ap (λ ls. inv.3 ++ f.text ∷ ls) (sym gone) ∙ sym (append_assoc inv.3 (f.text ∷ []) (left columns c.next_line.new.self)),
      rw c.in_ok-push.ensures.items (all_zip_append shows c.loop-lines.lines.items (c.in-Some.line ∷ []) inv.3 (f.text ∷ []) inv.5 (line, tt)),
    )

pub returns-clause-lines : goal.returns-clause-lines
returns-clause-lines g c = grind (arith, none_handed, append-nil, c.loop-lines.invariant, c.in_ok-line.ensures.answers.ok, c.in_default.is, c.in_ok-line.ensures.line)

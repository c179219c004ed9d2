use Rattle.tbr_wrap.proofs.Common.{◌++◌, ◌<◌, ap, ◌∙◌, refl, subst, AllZip, SameItems, Block, left, has_no_character}
use Rattle.tbr_wrap.proofs.runs.BlockLaws.{flush_best, flush_leaves, left_flushed}
use Rattle.tbr_wrap.proofs.runs.HeldRuns.{laid, left_shown, ended_held}
use Rattle.tbr_wrap.proofs.block.WrappedBlock.into_ended.Goals as goal

pub new-requires-clause-held : goal.new-requires-clause-held
new-requires-clause-held g c =
    let k = c.self.invariant (ap (λ (s : Block g.row.T.Denot). s.failure) c.self.view_is ∙ c.requires.unfailed) in
    (k.before ++ (laid _ _ _ _ _ k).done, ended_held _ _ _ _ _ k (ap (has_no_character g.W.CharWidth.columns) c.self.view_is ∙ c.requires.ended))

pub returns-clause-gives : goal.returns-clause-gives
returns-clause-gives g c =
    let k = c.self.invariant (ap (λ (s : Block g.row.T.Denot). s.failure) c.self.view_is ∙ c.requires.unfailed) in
    let held = ended_held _ _ _ _ _ k (ap (has_no_character g.W.CharWidth.columns) c.self.view_is ∙ c.requires.ended) in
    subst (λ (s : Block g.row.T.Denot). AllZip (SameItems g.T.PartialEq.eq) c.new.result (left g.W.CharWidth.columns s)) c.self.view_is
    (rw (c.new.ensures _ held) (left_shown _ _ _ _ _ k))

pub returns-clause-best : goal.returns-clause-best
returns-clause-best g c = λ before ends normal.
    let columns = g.W.CharWidth.columns in
    let k = c.self.invariant (ap (λ (s : Block g.row.T.Denot). s.failure) c.self.view_is ∙ c.requires.unfailed) in
    let held = ended_held _ _ _ _ _ k (ap (has_no_character columns) c.self.view_is ∙ c.requires.ended) in
    let gives : AllZip (SameItems g.T.PartialEq.eq) c.new.result (left columns c.args.self) =
    subst (λ (s : Block g.row.T.Denot). AllZip (SameItems g.T.PartialEq.eq) c.new.result (left columns s)) c.self.view_is (rw (c.new.ensures _ held) (left_shown _ _ _ _ _ k)) in
    let is = flush_leaves columns before c.args.self ends in
    let here : 0 < c.args.self.width = rw (← c.self.view_is) c.self.inside.wrapper.value.lines.positive in
    let wide : 0 < before.width = subst (λ n. 0 < n) (ap (λ (s : Block g.row.T.Denot). s.width) is) here in (
      flush_best columns (g.met.W.CharWidth.drawn_in_one 32 refl) before wide c.args.self ends normal.1 normal.2,
      subst (AllZip (SameItems g.T.PartialEq.eq) c.new.result) (ap (left columns) is ∙ left_flushed columns before) gives,
    )

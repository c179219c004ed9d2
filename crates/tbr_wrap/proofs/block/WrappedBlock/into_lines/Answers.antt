use Rattle.tbr_wrap.proofs.Common.{◌≡◌, ap, AllZip, done, run_of, Block, Settings, left, all_lines, after_flush, HasBestLines, ShowsText}
use Rattle.std.proofs.lemmas.Result.{IfOk-weaker}
use Rattle.tbr_wrap.proofs.runs.BlockLaws.{flush_leaves, left_flushed}
use Rattle.tbr_wrap.proofs.block.WrappedBlock.into_lines.Goals as goal

pub returns-clause-gives : goal.returns-clause-gives
returns-clause-gives g c =
    let columns = g.W.CharWidth.columns in let t = c.flush.new.self in
    let padding = ap (λ (k : Settings g.row.T.Denot). k.padding) c.in_ok-flush.ensures.answers.settings_stay in
    let width = ap (λ (k : Settings g.row.T.Denot). k.width) c.in_ok-flush.ensures.answers.settings_stay in
    let ended : left columns t ≡ t.ended = rw (flush_leaves columns c.args.self t c.in_ok-flush.ensures.answers.ok) (left_flushed columns c.args.self) in
    IfOk-weaker c.hand_out.result
    (λ lines. AllZip (ShowsText columns g.T.PartialEq.eq t.padding t.width) lines.items (left columns t))
    (λ lines. (s : Block g.row.T.Denot) × (after_flush columns c.args.self ≡ done s) × AllZip (ShowsText columns g.T.PartialEq.eq c.args.self.padding c.args.self.width) lines.items s.ended)
    (λ lines shown. (t, c.in_ok-flush.ensures.answers.ok, rw (← ended) (rw (← padding) (rw (← width) shown))))
    c.hand_out.ensures.lines

pub returns-clause-best : goal.returns-clause-best
returns-clause-best g c = λ h.
    IfOk-weaker c.hand_out.result _
    (λ _. HasBestLines g.W.CharWidth.columns c.args.self.width (run_of c.args.self.events)
    (all_lines g.W.CharWidth.columns c.args.self)) (λ _ _. c.in_ok-flush.ensures.best h)
    c.hand_out.ensures.lines

use Rattle.tbr_wrap.proofs.Common.{◌≡◌, None, [], refl, ap, answers_ok, Settings, left}
use Rattle.tbr_wrap.proofs.runs.LinesLeft.{none_of, shows_padded}
use Rattle.tbr_wrap.proofs.runs.Blocks.{no_line, hands_first}
use Rattle.tbr_wrap.proofs.block.WrappedBlock.next_line.Goals as goal

pub returns-in_default-clause-answers : goal.returns-in_default-clause-answers
returns-in_default-clause-answers g c =
    let columns = g.W.CharWidth.columns in
    let none : left columns c.args.self.now ≡ [] = none_of _ (λ text rest e. rw c.in_default.is at (c.in_ok-line.ensures.some text rest e)) in
    answers_ok _ _ _ _ None _ c.in_ok-refusal.ensures (no_line columns c.args.self.now c.take_line.new.self none (c.in_ok-line.ensures.none none).1) c.in_ok-line.ensures.settings

pub returns-in_default-clause-line : goal.returns-in_default-clause-line
returns-in_default-clause-line g c =
    let columns = g.W.CharWidth.columns in
    let none : left columns c.args.self.now ≡ [] = none_of _ (λ text rest e. rw c.in_default.is at (c.in_ok-line.ensures.some text rest e)) in
    rw none refl

pub returns-clause-line : goal.returns-clause-line
returns-clause-line g c =
    let columns = g.W.CharWidth.columns in let eq = g.T.PartialEq.eq in
    let pads = ap (λ (k : Settings g.row.T.Denot). k.padding) c.in_ok-line.ensures.settings in
    let wide = ap (λ (k : Settings g.row.T.Denot). k.width) c.in_ok-line.ensures.settings in
    let padded = c.in_ok-keep_want.ensures.ok.0 in
    let filled = rw pads at (rw wide at (rw padded at c.pad-padded.ensures.items)) in
    let merged = rw padded at (c.pad-padded.ensures.merged (c.in_ok-line.ensures.merged c.in-Some.line c.in-Some.is)) in
    hands_first columns eq c.args.self.now (left columns c.args.self.now) c.pad-padded.new.line
    (λ none. let was = (c.in_ok-line.ensures.none none).0 in let some = c.in-Some.is in cc)
    (λ text rest e. shows_padded columns eq g.met.T.Eq.laws c.args.self.now.padding c.args.self.now.width c.in-Some.line c.pad-padded.new.line text filled merged
    (rw c.in-Some.is at (c.in_ok-line.ensures.some text rest e)))

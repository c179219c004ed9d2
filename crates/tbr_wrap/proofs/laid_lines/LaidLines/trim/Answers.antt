use Rattle.tbr_wrap.proofs.Common.{◌++◌, sym, rules, joined}
use Rattle.tbr_wrap.proofs.lines.TrimmedSpaces.{same_leading, markers_left, removed_width, lays_trimmed}
use Rattle.tbr_wrap.proofs.laid_lines.LaidLines.trim.Goals as goal

pub invariant_of-self-clause-marked : goal.invariant_of-self-clause-marked
invariant_of-self-clause-marked g c =
    let w = c.requires.lays in let h = w.5 in
    markers_left w.0 w.4 g.T.PartialEq.eq c.args.self.now w.1 w.2 w.3 h c.trim-removed.result
    (c.trim-removed.ensures.placed (joined (w.1 ++ h.laid.done)) h.laid.line h.holds.placed (sym h.holds.len)).1

pub overflow_sub-self-2 : goal.overflow_sub-self-2
overflow_sub-self-2 g c =
    let w = c.requires.lays in let h = w.5 in
    removed_width w.0 w.4 g.T.PartialEq.eq c.args.self.now w.1 w.2 w.3 h c.trim-removed.result
    (c.trim-removed.ensures.placed (joined (w.1 ++ h.laid.done)) h.laid.line h.holds.placed (sym h.holds.len)).1

pub returns-clause-trimmed : goal.returns-clause-trimmed
returns-clause-trimmed g c = search (rules, lays_trimmed, c.trim-removed.ensures.placed)

pub returns-clause-word : goal.returns-clause-word
returns-clause-word g c = λ js same. rw c.trim-removed.ensures.word (same_leading g.T.PartialEq.eq c.args.self.now.flat.word js same)

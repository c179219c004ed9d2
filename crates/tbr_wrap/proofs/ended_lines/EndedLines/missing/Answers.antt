use Rattle.tbr_wrap.proofs.Common.{◌-◌, ◌∷◌, [], length, ap, arith, rules, length-map, items_width}
use Rattle.std.proofs.lemmas.List.{length-append}
use Rattle.tbr_wrap.proofs.lines.LackingColumns.{lacking_first, lacking_next, lacking_last}
use Rattle.tbr_wrap.proofs.ended_lines.EndedLines.missing.Goals as goal

pub loop-len-init : goal.loop-len-init
loop-len-init g c = search (rules, lacking_first, c.self.view_is, c.into_iter-len-iterator.ensures.into_iter_gives.0, c.items-items.ensures, c.in_ok-missing.ensures.items, c.in_ok-missing.ensures.len)

pub loop-len-preserved : goal.loop-len-preserved
loop-len-preserved g c =
    let last = c.saturating_sub.result in let items = c.in_ok-push_back.ensures.items in
    record {
      found =
          lacking_next g.W.CharWidth.columns c.args.width _ _ _ _ _ _ _ c.in-Some.len.now c.next_width.result last
          c.loop-len.invariant.found c.in-Some.ensures.steps c.next_width.ensures.width c.ranges.width.fits
          c.saturating_sub.ensures
          c.next_width.ensures.rest items;
      counted = omega (arith, c.loop-len.invariant.counted, c.in_ok-push_back.ensures.len, ap length items, length-append c.loop-len.missing.items (last ∷ []));
    }

pub returns-clause-missing : goal.returns-clause-missing
returns-clause-missing g c = lacking_last g.W.CharWidth.columns c.args.width _ _ _ _ c.loop-len.invariant.found c.in-None.ensures.steps.0

pub returns-clause-counted : goal.returns-clause-counted
returns-clause-counted g c =
    omega (
      arith,
      c.loop-len.invariant.counted,
      ap length (lacking_last g.W.CharWidth.columns c.args.width _ _ _ _ c.loop-len.invariant.found c.in-None.ensures.steps.0),
      length-map c.args.self.now (λ is. c.args.width - items_width g.W.CharWidth.columns is),
    )

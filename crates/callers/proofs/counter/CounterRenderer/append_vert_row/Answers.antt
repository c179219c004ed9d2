use Rattle.callers.proofs.Common.{List, map, ap, ◌∙◌, sym, Each, on_ok_weaker, Outcome, done, Line, gathered, IsWide, Counted, with_more, one_line, handed_out, calls}
use Rattle.callers.proofs.Counts.{nothing_said, takes_so, takes_given, all_handed, lines_of_all}
use Rattle.callers.proofs.counter.CounterRenderer.append_vert_row.Goals as goal

pub returns : goal.returns
returns c =
    let cols = c.args.cols.items in
    let old = c.args.self.now in
    let take : List (List (Line (Unit {0}))) → Counted → Outcome Counted = calls.append_vert_row in
    record {
      takes = takes_so (gathered handed_out cols) (Each (IsWide calls) cols) take old c.take_all.new.self c.take_all.result
          (on_ok_weaker c.take_all.result (λ h. (
            h.0,
            takes_given (gathered handed_out cols) take old c.take_all.new.self (map one_line cols) h.0 (all_handed (λ (x : Counted). x) cols h.1)
                (ap (λ n. done (with_more n old)) (lines_of_all (λ (x : Counted). x) cols) ∙ ap (λ (d : Counted). done d) (sym h.2)),
          )) c.take_all.ensures.ok)
          c.take_all.ensures.err;
      best = on_ok_weaker c.take_all.result (λ h. (tt, nothing_said cols)) c.take_all.ensures.ok;
    }

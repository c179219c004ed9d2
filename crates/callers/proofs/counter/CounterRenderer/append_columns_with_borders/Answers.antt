use Rattle.callers.proofs.Common.{[], ◌∙◌, ap, sym, Each, on_ok_weaker, done, cells_given, IsWide, Counted, with_more, handed_out, calls}
use Rattle.callers.proofs.Counts.{nothing_said, takes_so, takes_given, cells_come}
use Rattle.callers.proofs.counter.CounterRenderer.append_columns_with_borders.Goals as goal

pub returns : goal.returns
returns c =
    let cols = c.args.cols.items in
    let old = c.args.self.now in
    let given = cells_given (λ x. x.width) handed_out cols [] in
    record {
      takes = takes_so given (Each (λ col. IsWide calls col.0) cols) (calls.append_row c.args.collapse) old c.take_cells.new.self c.take_cells.result
          (on_ok_weaker c.take_cells.result (λ h.
          let (cells, gives, sum) = cells_come cols [] h.1 in (
            h.0,
            takes_given given (calls.append_row c.args.collapse) old c.take_cells.new.self cells h.0 gives
                (ap (λ n. done (with_more n old)) sum ∙ ap (λ (d : Counted). done d) (sym h.2)),
          )) c.take_cells.ensures.ok)
          c.take_cells.ensures.err;
      best = on_ok_weaker c.take_cells.result (λ h. (tt, nothing_said cols)) c.take_cells.ensures.ok;
    }

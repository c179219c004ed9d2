use Rattle.tbr_rows.proofs.Common.{◌≡◌, map, ap, refl, ◌∙◌, rules, option_map, row_height, cell_in, overhang, columns_shown, next_begun, shown_in, left_in, row_under}
use Rattle.tbr_rows.proofs.ColumnsOfRows.{rest_apart}
use Rattle.tbr_rows.proofs.AlikeRows.{below_alike}
use Rattle.tbr_rows.proofs.columns.Columns.lay_out.Goals.{After-drawn}
use Rattle.tbr_rows.proofs.columns.Columns.lay_out.Goals as goal

shown : (g : _) (c : After-drawn g) → c.in_ok-columns.columns.items ≡ shown_in c.args.style c.args.above c.in_ok-cells.cells.items
shown g c = c.in_ok-columns.ensures.columns ∙ ap (columns_shown c.args.style.collapses) c.in_ok-above.ensures.cells

height : (g : _) (c : After-drawn g) → c.height-height.result ≡ row_height (shown_in c.args.style c.args.above c.in_ok-cells.cells.items)
height g c = c.height-height.ensures ∙ ap row_height (c.deref-2.ensures.value ∙ shown g c)

left : (g : _) (c : After-drawn g) → map cell_in c.lines_of.new.columns.items ≡ left_in c.args.style c.args.above c.in_ok-cells.cells.items
left g c = rw (c.in_ok-lines.ensures.rest, height g c, shown g c) refl

pub of-requires : goal.of-requires
of-requires g c = search (rules, left, rest_apart, c.in_ok-rest.ensures.rest, c.in_ok-cells.ensures.side_by_side)

pub returns-clause-row : goal.returns-clause-row
returns-clause-row g c =
    let d = (goal.at.returns-clause-row g c).After-drawn in
    let style = c.args.style in
    let top = c.args.above in
    let cells = c.in_ok-cells.cells.items in
    let base : c.meet_next.new.next ≡ next_begun style top cells c.in_ok-next.next =
    rw (c.in_ok-columns.ensures.next, c.in_ok-above.ensures.next, c.in_ok-above.ensures.cells) refl in
    let plain = rw (c.in_ok-row_width.ensures, c.deref.ensures.value) at c.in_ok-next.ensures in
    let gaps = rw (left g d, base) at c.in_ok-rest.ensures.gaps in (
      row_under g.T.PartialEq.eq g.W.CharWidth.columns style c.args.tag.now top cells,
      ap (option_map (row_under g.T.PartialEq.eq g.W.CharWidth.columns style c.args.tag.now top)) c.in_ok-cells.ensures.cells,
      record {
        upper = c.in_ok-above.ensures.above;
        texts = rw (c.separator.ensures, height g d, shown g d) at c.in_ok-lines.ensures.items;
        lower = rw c.drawn.ensures (below_alike g.T.PartialEq.eq g.met.T.Eq.laws g.W.CharWidth.columns style c.args.tag.now top cells c.in_ok-next.next c.hang.new.next plain gaps);
        rest = c.of.ensures ∙ c.in_ok-rest.ensures.rest ∙ ap (overhang style.draws_borders) (left g d);
      },
    )

use Rattle.tbr_rows.proofs.Common.{set, ◌≡◌, ◌<◌, length, get_or, ap, ◌∙◌, arith, glyph, dropped}
use Rattle.tbr_rows.proofs.RowTexts.{read_dropped, one_more_cell}
use Rattle.std.proofs.lemmas.List.Edits.{map_over_more}
use Rattle.tbr_rows.proofs.texts.line_of.Goals as goal

pub loop-i-preserved : goal.loop-i-preserved
loop-i-preserved g c =
    let xs = c.args.columns.now.items in
    let i = c.loop-i.i in
    let below : i < length xs = omega (arith, c.loop-i-test.true, c.len-i-end.ensures, c.args.columns.now.ok.0) in
    let inv = c.loop-i.invariant in
    let x = c.index_mut.result.now in
    let read : x ≡ get_or xs i x = read_dropped xs i x below (c.index_mut.ensures.value ∙ ap (λ cs. get_or cs i x) inv.columns) in
    rw c.make_room.ensures (record {
      items =
          one_more_cell g.T.PartialEq.eq g.met.T.Eq.laws (glyph c.args.separator c.args.tag.now) c.args.tag.now xs i x c.loop-i.line c.push_separator.new.line c.push_first.new.line below read
          inv.items c.in_ok-push_separator.ensures.items c.in_ok-push_first.ensures.items;
      merged = c.in_ok-push_first.ensures.merged (c.in_ok-push_separator.ensures.merged inv.merged);
      columns =
          ap (set c.loop-i.columns.items i) c.in_ok-push_first.ensures.rest
          ∙ map_over_more (dropped 1) xs c.loop-i.columns.items i x below inv.columns c.index_mut.ensures.value;
    })

use Rattle.tbr_show.proofs.Common.{map-id, ap, sym, ◌∙◌, ◌++◌, YieldsList-from_chars, YieldsList-end, chars_of, printable, shown}
use Rattle.tbr_show.proofs.Appended.{shown_more, wide_more, shown_all, on_ok_then}
use Rattle.tbr_show.proofs.html.push_shown.Goals as goal

pub loop-c-preserved-then-not-is_control : goal.loop-c-preserved-then-not-is_control
loop-c-preserved-then-not-is_control g c =
    let columns = g.W.CharWidth.columns in
    let start = chars_of c.args.text.now in
    let inv = c.loop-c.invariant in
    let shows = sym c.is_control.ensures ∙ c.if-not-is_control.true in record {
      text = shown_more columns start c.loop-c.yielded (chars_of c.loop-c.text) c.loop-c.is_wide inv.text inv.wide c.in-Some.c c.width-width.result shows c.width-width.ensures
          c.between.result.now (chars_of c.push_ascii.new.text) (chars_of c.push_character.new.text) c.between.ensures c.in_ok-push_ascii.ensures c.in_ok-push_character.ensures;
      wide = wide_more columns start c.loop-c.yielded (chars_of c.loop-c.text) c.loop-c.is_wide inv.text inv.wide c.in-Some.c c.width-width.result shows c.width-width.ensures
          c.is_wide_after-is_wide.result c.is_wide_after-is_wide.ensures;
    }

pub returns : goal.returns
returns g c =
    let columns = g.W.CharWidth.columns in
    let start = chars_of c.args.text.now in
    let end = YieldsList-end (YieldsList-from_chars c.args.more.now c.utf8.more cc) c.loop-c.yielded _ c.loop-c.yielded_by _ _ c.in-None.is c.next.ensures.steps in
    let inv = c.loop-c.invariant in
    on_ok_then c.push_ascii-2.result
    (λ h. shown_all columns start c.loop-c.yielded (chars_of c.loop-c.text) c.loop-c.is_wide inv.text inv.wide c.between-2.result.now (chars_of c.push_ascii-2.new.text) c.between-2.ensures h
    ∙ ap (λ cs. start ++ shown columns (printable cs)) (sym (map-id c.loop-c.yielded) ∙ end.0))
    c.push_ascii-2.ensures

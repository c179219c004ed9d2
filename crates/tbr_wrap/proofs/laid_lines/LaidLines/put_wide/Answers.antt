use Rattle.tbr_wrap.proofs.Common.{◌<◌, take, drop, ap, sym, ◌∙◌, subst, arith, item_width, items_width, end_if_columns, SameItems, same_width, HoldsRule, same_take}
use Rattle.tbr_wrap.proofs.lines.LaidByRule.{item_wide, some_same}
use Rattle.tbr_wrap.proofs.laid_lines.LaidLines.put_wide.Goals as goal

pub returns-clause-put : goal.returns-clause-put
returns-clause-put g c =
    let columns = g.W.CharWidth.columns in let eq = g.T.PartialEq.eq in
    let old = c.args.self.now in let new = c.place_wide.new.self in let flat = c.in_ok-end_if_columns.ensures.flat in
    record {
      count = 1;
      some = omega arith;
      word = c.in_ok-place_wide.ensures.word ∙ ap (λ f. drop 1 f.word) flat;
      put = λ js same before given r h.
          let s = some_same eq old.flat.word js c.requires.some same in
          let begins = same_width columns eq (take 1 old.flat.word) (take 1 js) (same_take eq g.met.T.Eq.laws 1 old.flat.word js same) ∙ ap (λ ks. items_width columns (take 1 ks)) s.2 in
          let wide : old.width < item_width columns s.0 = omega (arith, begins, c.requires.width, c.requires.wide) in
          let word = subst (λ ks. SameItems eq c.end_if_columns.new.self.flat.word ks) s.2 (subst (λ f. SameItems eq f.word js) (sym flat) same) in
          rw s.2 (item_wide columns old.width (HoldsRule columns eq new before given) r s.0 wide
          (c.in_ok-place_wide.ensures.placed s.0 s.1 word
          (omega (arith, wide, c.in_ok-end_if_columns.ensures.limits.width)) before given (end_if_columns r)
          (c.in_ok-end_if_columns.ensures.ended columns before given r h)));
    }

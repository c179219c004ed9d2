use Rattle.tbr_wrap.proofs.Common.{◌≡◌, ◌<◌, false, List, [], take, drop, ap, ◌∙◌, arith, Item, items_width, put_items}
use Rattle.tbr_flat.proofs.MarkedItems.{same_drop}
use Rattle.tbr_wrap.proofs.lines.HeldLines.{keeps_trans}
use Rattle.tbr_wrap.proofs.lines.LaidByRule.{none_same, put_parts, narrow_rest, none_first, first_columns}
use Rattle.tbr_wrap.proofs.laid_lines.LaidLines.put_word.Goals as goal

pub loop-width-preserved : goal.loop-width-preserved
loop-width-preserved g c =
    let columns = g.W.CharWidth.columns in let eq = g.T.PartialEq.eq in
    let width = c.args.self.now.width in let now = c.loop-width.self in let new = c.put_front.new.self in
    let inv = c.loop-width.invariant in let f = c.in_ok-put_front.ensures.put in
    record {
      put = λ before given r js h word.
          let n = inv.put before given r js h word in
          let put = f.put n.1 n.3 before given n.0 n.2 in (
            put_items columns width n.0 (take f.count n.1),
            drop f.count n.1,
            rw inv.limits.width at put,
            rw f.word (same_drop eq g.met.T.Eq.laws f.count now.flat.word n.1 n.3),
            n.4 ∙ put_parts columns width n.0 f.count n.1,
          );
      back = λ k. rw f.word (narrow_rest columns width f.count now.flat.word (inv.back k));
      narrow = λ may wide.
          let first : c.in-Some.width ≡ items_width columns (take 1 now.flat.word) = first_columns columns c.in-Some.width now.flat.word c.in-Some.ensures in
          let wider : now.width < c.in-Some.width = omega (arith, wide, first, ap (λ (is : List (Item g.row.T.Denot)). items_width columns (take 1 is)) (inv.narrow may wide), inv.limits.width) in
          let narrow : now.may_overflow ≡ false = cc (inv.limits.may_overflow, may) in
          let is = c.put_front.ensures.narrow narrow wider in
          let was = c.in_ok-put_front.was in
          cc;
      limits = keeps_trans c.args.self.now now new inv.limits c.in_ok-put_front.ensures.limits;
    }

pub returns-clause-put : goal.returns-clause-put
returns-clause-put g c = λ js word before given r h.
    let columns = g.W.CharWidth.columns in
    let n = c.loop-width.invariant.put before given r js h word in
    let none : c.loop-width.self.flat.word ≡ [] = none_first columns c.first_width.result c.loop-width.self.flat.word c.first_width.ensures c.in_default.not-Some in
    let none_left = none_same g.T.PartialEq.eq n.1 (rw none at n.3) in
    rw (n.4, none_left) n.2

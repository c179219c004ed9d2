use Rattle.tbr_tagged.proofs.Common.{◌-◌, rules, map, refl, ◌++◌, arith, on_ok_weaker, items_width, text_items, items_of, spaces, columns_in_front, stored, element_of}
use Rattle.tbr_tagged.specs.Padding.{aligned}
use Rattle.tbr_tagged.proofs.SameItems.{same_items_trans, same_items_of}
use Rattle.tbr_tagged.proofs.PaddedLines.{front_within, padded_items, padded_merged, padded_columns}
use Rattle.tbr_tagged.proofs.tagged_line.TaggedLine.pad_aligned.Goals as goal

pub returns-clause-ok : goal.returns-clause-ok
returns-clause-ok g c = search rules

pub returns-clause-items : goal.returns-clause-items
returns-clause-items g c =
    let eq = g.T.PartialEq.eq in
    let missing = c.args.width - items_width g.W.CharWidth.columns (items_of c.args.self.now) in
    let front = columns_in_front c.args.align missing in
    on_ok_weaker c.pad.result (λ same. same_items_trans eq g.met.T.Eq.laws
    (items_of (map element_of (stored c.pad.new.elements)))
    (items_of (aligned eq c.args.align c.args.self.now missing c.args.tag.now))
    (text_items (spaces front) c.args.tag.now ++ items_of c.args.self.now ++ text_items (spaces (missing - front)) c.args.tag.now)
    (same_items_of eq g.met.T.Eq.laws (map element_of (stored c.pad.new.elements)) (aligned eq c.args.align c.args.self.now missing c.args.tag.now) same)
    (padded_items eq g.met.T.Eq.laws c.args.self.now front (missing - front) c.args.tag.now)) (returns-clause-ok g c)

pub returns-clause-width : goal.returns-clause-width
returns-clause-width g c =
    let columns = g.W.CharWidth.columns in
    let missing = c.args.width - items_width columns (items_of c.args.self.now) in
    let front = columns_in_front c.args.align missing in
    on_ok_weaker c.pad.result (λ same.
    let sum =
    padded_columns g.T.PartialEq.eq g.met.T.Eq.laws columns (items_of (map element_of (stored c.pad.new.elements)))
    (items_of c.args.self.now) front (missing - front) c.args.tag.now (g.met.W.CharWidth.drawn_in_one 32 refl)
    same in
    omega (arith, sum, front_within c.args.align missing)) (returns-clause-items g c)

pub returns-clause-merged : goal.returns-clause-merged
returns-clause-merged g c = search (rules, on_ok_weaker, padded_merged, returns-clause-ok)

use Rattle.tbr_kept_lines.proofs.Common.{sym, ◌∙◌, chars, on_ok_weaker, items_of}
use Rattle.tbr_tagged.proofs.SameItems.{same_from_path}
use Rattle.tbr_kept_lines.proofs.Prefixes.{no_prefix, under_copy}
use Rattle.tbr_kept_lines.proofs.prefixed_lines.put_in_front.Goals as goal

pub returns-then-is_empty-clause-items : goal.returns-then-is_empty-clause-items
returns-then-is_empty-clause-items g c =
    same_from_path g.T.PartialEq.eq g.met.T.Eq.laws (items_of c.args.line.now) _ (no_prefix c.args.text.now c.args.tag.now (items_of c.args.line.now) (sym c.is_empty.ensures ∙ c.if-is_empty.true))

pub returns-clause-items : goal.returns-clause-items
returns-clause-items g c =
    on_ok_weaker c.insert_front_str.result
    (under_copy g.T.PartialEq.eq g.met.T.Eq.laws (chars c.args.text.now) c.args.tag.now c.in_ok-clone.field-0
    (items_of c.insert_front_str.new.self) (items_of c.args.line.now)
    (g.met.T.Eq.laws.symm _ _ ∙ g.met.T.Tag.copies_equal _ _ c.in_ok-clone.ensures.cases))
    c.insert_front_str.ensures.items

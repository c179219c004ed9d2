use Rattle.tbr_renderer.proofs.Common.{◌∙◌, ◌++◌, ap, sym, chars, on_ok_weaker, items_of, text_items, items_told}
use Rattle.tbr_kept_lines.proofs.Prefixes.{no_prefix}
use Rattle.tbr_renderer.proofs.sub.SubRenderer.put_in_front.Goals as goal

pub returns-then-is_empty-clause-items : goal.returns-then-is_empty-clause-items
returns-then-is_empty-clause-items g c = no_prefix c.args.prefix.now _ _ (sym c.is_empty.ensures ∙ c.if-is_empty.true)

pub returns-clause-items : goal.returns-clause-items
returns-clause-items g c =
    let cs = chars c.args.prefix.now in
    let tag = c.in_ok-tag.tag in
    let line = items_of c.args.text.now in
    on_ok_weaker c.insert_front_str.result
    (λ same. items_told g.D.Annotation.Tag.same g.D.Annotation.Tag.tells (items_of c.insert_front_str.new.self) (text_items cs tag ++ line) same
    ∙ ap (λ v. text_items cs v ++ line) c.in_ok-tag.ensures)
    c.insert_front_str.ensures.items

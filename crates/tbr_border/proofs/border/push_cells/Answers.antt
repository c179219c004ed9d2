use Rattle.tbr_border.proofs.Common.{◌≡◌, [], ◌++◌, map, length, ◌∙◌, sym, chars, append-nil, refl, string_bytes, chars-nil, on_ok_weaker, items_of, SameItems, cell_of, character, drawn, same_items}
use Rattle.tbr_border.proofs.Common.{same_items_append, same_items_trans}
use Rattle.std.proofs.lemmas.Bool.{eqb-true}
use Rattle.std.proofs.lemmas.List.{nil_from_length}
use Rattle.tbr_tagged.specs.Elements.{text_items}
use Rattle.tbr_tagged.proofs.SameItems.{same_texts}
use Rattle.tbr_border.proofs.border.push_cells.Goals as goal

pub returns-then-is_empty-clause-items : goal.returns-then-is_empty-clause-items
returns-then-is_empty-clause-items g c =
    let none : c.args.cells.now ≡ [] = nil_from_length c.args.cells.now (eqb-true (length c.args.cells.now) 0 (sym c.if-is_empty.ensures)) in
    rw (none, append-nil) (same_items g.T.PartialEq.eq g.met.T.Eq.laws (items_of c.args.line.now))

pub returns-clause-items : goal.returns-clause-items
returns-clause-items g c =
    let eq = g.T.PartialEq.eq in
    let laws = g.met.T.Eq.laws in
    let text : chars (string_bytes c.draw.new.text) ≡ map character (map cell_of c.args.cells.now) =
    rw (c.in_ok-draw.ensures, c.new-s.ensures.bytes, chars-nil) refl in
    let tag = laws.symm _ _ ∙ g.met.T.Tag.copies_equal _ _ c.in_ok-tag.ensures.cases in
    let same : SameItems eq (text_items (chars (string_bytes c.draw.new.text)) c.in_ok-tag.tag) (drawn (map cell_of c.args.cells.now) c.args.tag.now) =
    rw text (same_texts eq laws (map character (map cell_of c.args.cells.now)) c.in_ok-tag.tag c.args.tag.now tag) in
    on_ok_weaker c.push_str.result (λ pushed. same_items_trans eq laws (items_of c.push_str.new.self)
    (items_of c.args.line.now ++ text_items (chars (string_bytes c.draw.new.text)) c.in_ok-tag.tag) (items_of c.args.line.now ++ drawn (map cell_of c.args.cells.now) c.args.tag.now)
    pushed
    (same_items_append eq laws (items_of c.args.line.now) (items_of c.args.line.now)
    (text_items (chars (string_bytes c.draw.new.text)) c.in_ok-tag.tag)
    (drawn (map cell_of c.args.cells.now) c.args.tag.now)
    (same_items eq laws (items_of c.args.line.now)) same)) c.push_str.ensures.items

use Rattle.tbr_rows.proofs.Common.{◌≡◌, ◌-◌, ◌++◌, ap, ◌∙◌, subst, rules, nil_from_length, on_ok_weaker, items_of, text_items, SameItems, spaces}
use Rattle.tbr_rows.proofs.AlignedLines.{first_aligned, none_aligned, aligned_moved}
use Rattle.tbr_rows.proofs.aligned_lines.AlignedLines.move_line.Goals as goal

pub returns-in_default-clause-items : goal.returns-in_default-clause-items
returns-in_default-clause-items g c = search (rules, nil_from_length, none_aligned, c.self.invariant.0, c.in_default.ensures.cases.0, c.self.view_is)

pub returns-in_default-clause-rest : goal.returns-in_default-clause-rest
returns-in_default-clause-rest g c = search (rules, nil_from_length, none_aligned, c.self.invariant.0, c.in_default.ensures.cases.0, c.in_default.ensures.rest, c.self.view_is)

pub returns-clause-items : goal.returns-clause-items
returns-clause-items g c = λ is rest e.
    let eq = g.T.PartialEq.eq in
    let i = c.self.inside in
    let n = c.in-Some.missing in
    let f = first_aligned i.align i.tag i.ended i.missing.items c.pop_front.new.self.items n c.args.self.now rest is c.in-Some.ensures.items c.self.view_is e in
    let old = items_of c.args.line.now in
    let one = items_of c.push_spaces.new.self in
    let two = items_of c.move_line.new.line in
    let front = text_items (spaces c.columns_in_front-front.result) i.tag in
    let after = text_items (spaces (n - c.columns_in_front-front.result)) i.tag in
    let whole : front ++ f.0 ++ after ≡ is = ap (λ k. text_items (spaces k) i.tag ++ f.0 ++ text_items (spaces (n - k)) i.tag) c.columns_in_front-front.ensures.value ∙ f.3 in
    on_ok_weaker c.push_spaces-2.result (λ h.
    subst (λ js. SameItems eq (items_of c.push_spaces-2.new.self) (old ++ js)) whole
    (aligned_moved eq g.met.T.Eq.laws old one two (items_of c.push_spaces-2.new.self) front f.0 after c.in_ok-push_spaces.ensures.items (c.in_default-move_line.ensures.items f.0 f.1 f.2) h))
    c.push_spaces-2.ensures.items

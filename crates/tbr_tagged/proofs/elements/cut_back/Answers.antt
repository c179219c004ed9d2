use Rattle.tbr_tagged.proofs.Common.{◌≡◌, ◌<◌, ◌∙◌, ap, sym, map, length, arith, rules, [], eqb-true, nat_tests, length-map, extend_last, element_of}
use Rattle.std.specs.Vec.{vec_len}
use Rattle.std.proofs.lemmas.List.{take-map, nil_from_length}
use Rattle.tbr_tagged.proofs.GrownLines.{first_elements, extend_len, cut_at, none_left}
use Rattle.tbr_tagged.proofs.elements.cut_back.Goals as goal

pub returns-then-is_empty : goal.returns-then-is_empty
returns-then-is_empty g c = λ es count bytes grown.
    let kept : map element_of c.truncate.new.self.items ≡ extend_last es grown.0 =
    ap (map element_of) c.truncate.ensures.items ∙ sym (take-map element_of c.args.count c.args.elements.now.items)
    ∙ first_elements es (map element_of c.args.elements.now.items) c.args.count count grown in
    let empty : vec_len c.truncate.new.self ≡ 0 = eqb-true (vec_len c.truncate.new.self) 0 (sym c.if-is_empty.ensures) in
    let none : c.truncate.new.self.items ≡ [] = nil_from_length c.truncate.new.self.items (omega (arith, empty)) in
    ap (map element_of) none ∙ none_left es grown.0 (sym kept ∙ ap (map element_of) none)

pub returns : goal.returns
returns g c = λ es count bytes grown.
    let kept : map element_of c.truncate.new.self.items ≡ extend_last es grown.0 =
    ap (map element_of) c.truncate.ensures.items ∙ sym (take-map element_of c.args.count c.args.elements.now.items)
    ∙ first_elements es (map element_of c.args.elements.now.items) c.args.count count grown in
    let len : length es ≡ c.len-end.result = omega (arith, ap length kept, length-map c.truncate.new.self.items element_of, extend_len es grown.0, c.len-end.ensures) in
    let some : 0 < c.len-end.result = search (rules, nat_tests, c.len-end.ensures, c.if-is_empty.ensures) in
    cut_at element_of c.truncate.new.self.items es grown.0 c.len-end.result c.args.bytes c.index_mut.result.now c.cut_text.new.element len some bytes kept c.index_mut.ensures.value c.cut_text.ensures

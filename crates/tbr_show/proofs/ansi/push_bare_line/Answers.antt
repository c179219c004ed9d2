use Rattle.tbr_show.proofs.Common.{ap, ◌∙◌, ◌∷◌, [], ◌++◌, map, rules, flat_map, newline_character, chars_of, element_of, elements_left}
use Rattle.tbr_show.proofs.Appended.{one_after, flat_map-map_push, walked, on_ok_then, shown_of, shown_of_each}
use Rattle.tbr_show.proofs.ansi.push_bare_line.Goals as goal

pub loop-element-preserved : goal.loop-element-preserved
loop-element-preserved g c = search (rules, one_after, flat_map-map_push, shown_of, c.loop-element.invariant, c.in_ok-push_printable.ensures, c.as_str.ensures)

pub returns : goal.returns
returns g c =
    let all = walked elements_left element_of _ c.loop-element.yielded c.loop-element.element-iterator c.loop-element.yielded_by c.next.result c.next.new.self c.in-None.is c.next.ensures.steps
    ∙ ap (λ w. map element_of (elements_left w)) c.into_iter-element-iterator.ensures.into_iter_gives ∙ c.iter-element-items.ensures.elements in
    on_ok_then c.push_ascii.result
    (λ h. one_after _ _ _ _ _ c.loop-element.invariant h ∙ ap (λ es. chars_of c.args.text.now ++ (flat_map shown_of es ++ newline_character ∷ [])) all
    ∙ ap (λ cs. chars_of c.args.text.now ++ (cs ++ newline_character ∷ [])) (shown_of_each c.args.line.now))
    c.push_ascii.ensures

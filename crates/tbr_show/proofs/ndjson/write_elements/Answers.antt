use Rattle.tbr_show.proofs.Common.{ap, ◌∙◌, ◌++◌, map, sym, flat_map, element_of, elements_left, element_tokens}
use Rattle.tbr_show.proofs.Appended.{one_after, flat_map-map_push, walked}
use Rattle.tbr_show.proofs.ndjson.write_elements.Goals as goal

pub loop-element-preserved : goal.loop-element-preserved
loop-element-preserved g c = record {
  tokens = one_after _ _ _ _ _ c.loop-element.invariant.tokens c.in_ok-write_element.ensures.tokens
      ∙ ap (λ ts. c.args.writer.now.tokens ++ ts) (sym (flat_map-map_push (element_tokens g.W.CharWidth.columns) (λ e. element_of e.now) c.loop-element.yielded c.in-Some.element));
  before = c.in_ok-write_element.ensures.before ∙ c.loop-element.invariant.before;
}

pub returns-clause-tokens : goal.returns-clause-tokens
returns-clause-tokens g c =
    let all = walked elements_left element_of _ c.loop-element.yielded c.loop-element.element-iterator c.loop-element.yielded_by c.next.result c.next.new.self c.in-None.is c.next.ensures.steps
    ∙ ap (λ w. map element_of (elements_left w)) c.into_iter-element-iterator.ensures.into_iter_gives ∙ c.iter-element-items.ensures.elements in
    c.loop-element.invariant.tokens ∙ ap (λ es. c.args.writer.now.tokens ++ flat_map (element_tokens g.W.CharWidth.columns) es) all

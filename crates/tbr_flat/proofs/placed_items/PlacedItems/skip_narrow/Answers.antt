use Rattle.tbr_flat.proofs.Common.{take, drop, chars, ap, sym, ◌∙◌, arith, is_utf8, deque_iter_rest, is_utf8-from_IsUtf8, given, given_width, places_left}
use Rattle.tbr_tagged.proofs.NarrowText.{narrow_boundary}
use Rattle.tbr_flat.proofs.WalkedItems.{before_marker, narrow_rest, narrow_columns}
use Rattle.tbr_flat.proofs.placed_items.PlacedItems.skip_narrow.Goals as goal

pub range_from-requires : goal.range_from-requires
range_from-requires g c =
    let k = c.narrow_in_front-count.ensures in
    λ _. narrow_boundary g.W.CharWidth.columns c.as_str-text.result.now c.narrow_in_front-count.result c.as_str-text.utf8 k.within.1 k.narrow

pub invariant_of-self : goal.invariant_of-self
invariant_of-self g c = ap is_utf8 c.chars-self-inside.ensures.rest ∙ is_utf8-from_IsUtf8 c.range_from.result.now c.range_from.utf8

pub returns-clause-width : goal.returns-clause-width
returns-clause-width g c =
    let columns = g.W.CharWidth.columns in let before = c.self.inside.before in let ms = deque_iter_rest c.self.inside.markers in
    let text = c.as_str-text.result.now in let n = c.narrow_in_front-count.result in let k = c.narrow_in_front-count.ensures in
    let seen = ap (λ t. given (chars t) (places_left before ms)) c.as_str-text.ensures ∙ c.self.view_is in
    ap (λ os. given_width columns (take n os)) (sym seen)
    ∙ narrow_columns columns before ms text n c.as_str-text.utf8 k.within.1 k.narrow (before_marker before c.args.most n (omega (arith, k.within.0, c.min-most.ensures, c.unwrap_or.ensures)))

pub returns-clause-rest : goal.returns-clause-rest
returns-clause-rest g c =
    let columns = g.W.CharWidth.columns in let before = c.self.inside.before in let ms = deque_iter_rest c.self.inside.markers in
    let text = c.as_str-text.result.now in let n = c.narrow_in_front-count.result in let k = c.narrow_in_front-count.ensures in
    let seen = ap (λ t. given (chars t) (places_left before ms)) c.as_str-text.ensures ∙ c.self.view_is in
    let rest = c.chars-self-inside.ensures.rest ∙ c.range_from.ensures.value in
    (λ i. given (chars (rest i)) (places_left (c.left_before-self-inside.ensures i) ms))
    ∙ narrow_rest columns before ms text n c.as_str-text.utf8 k.within.1 k.narrow (before_marker before c.args.most n (omega (arith, k.within.0, c.min-most.ensures, c.unwrap_or.ensures)))
    ∙ ap (drop n) seen

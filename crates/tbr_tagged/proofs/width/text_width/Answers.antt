use Rattle.tbr_tagged.proofs.Common.{◌≡◌, unwrap_or, sym, ◌∙◌, ap, map-id, chars, arith, rules, YieldsList-end, width_of_text}
use Rattle.std.proofs.lemmas.Iterator.{YieldsList-from_chars}
use Rattle.tbr_tagged.proofs.NarrowText.{narrow_boundary, narrow_columns}
use Rattle.tbr_tagged.proofs.TextColumns.{turn_and_rest, width_of_text-append, width_of_text-beginning}
use Rattle.tbr_tagged.proofs.width.text_width.Goals as goal

pub range_from-requires : goal.range_from-requires
range_from-requires g c =
    let k = c.narrow_in_front-narrow.ensures in
    λ _. narrow_boundary g.W.CharWidth.columns c.args.s.now c.narrow_in_front-narrow.result c.utf8.s k.within.1 k.narrow

-- what comes after can only make the sum larger
pub returns-in_default : goal.returns-in_default
returns-in_default g c =
    let columns = g.W.CharWidth.columns in let k = c.narrow_in_front-narrow.ensures in
    let w = turn_and_rest (YieldsList-from_chars c.range_from.result.now c.range_from.utf8 cc) c.loop-c.yielded _ c.loop-c.yielded_by _ _ c.in-Some.c c.in-Some.is c.next.ensures.steps in
    let one : c.unwrap_or-more.result ≡ unwrap_or (columns c.in-Some.c) 0 = c.unwrap_or-more.ensures ∙ ap (λ o. unwrap_or o 0) c.width.ensures in
    let rest = ap (λ t. width_of_text columns (chars t)) c.range_from.ensures.value in
    omega (
      arith,
      c.in_default.ensures,
      c.loop-c.invariant,
      one,
      rest,
      width_of_text-beginning columns _ c.loop-c.yielded c.in-Some.c w.0 w.1,
      narrow_columns columns c.args.s.now c.narrow_in_front-narrow.result c.utf8.s k.within.1 k.narrow,
    )

pub loop-c-preserved : goal.loop-c-preserved
loop-c-preserved g c = search (rules, width_of_text-append, c.unwrap_or-more.ensures, c.width.ensures, c.in-Some-checked_add.ensures, c.loop-c.invariant)

pub returns : goal.returns
returns g c =
    let columns = g.W.CharWidth.columns in let k = c.narrow_in_front-narrow.ensures in
    let end = YieldsList-end (YieldsList-from_chars c.range_from.result.now c.range_from.utf8 cc) c.loop-c.yielded _ c.loop-c.yielded_by _ _ c.in-None.is c.next.ensures.steps in
    let rest = ap (width_of_text columns) (sym (map-id c.loop-c.yielded) ∙ end.0 ∙ ap chars c.range_from.ensures.value) in
    omega (arith, c.loop-c.invariant, rest, narrow_columns columns c.args.s.now c.narrow_in_front-narrow.result c.utf8.s k.within.1 k.narrow)

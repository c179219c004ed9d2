use Rattle.tbr_kept_lines.proofs.Common.{◌++◌, refl, ap, sym, ◌∙◌, rules, chars_of, parts_seen, lines_text}
use Rattle.tbr_kept_lines.proofs.KeptParts.{part_shown}
use Rattle.tbr_kept_lines.proofs.ItemsLeft.{items_taken}
use Rattle.tbr_kept_lines.proofs.kept_lines.append_parts.Goals as goal

pub loop-part-preserved : goal.loop-part-preserved
loop-part-preserved g c = search (rules, part_shown, c.in_ok-append_to.ensures, c.in_ok-append_lines.ensures, c.loop-part.invariant)

pub returns : goal.returns
returns g c =
    let start = c.into_iter-part-iterator.result in
    let all = items_taken start start c.loop-part.part-iterator c.next.new.self c.loop-part.yielded refl c.loop-part.yielded_by c.in-None.ensures.steps in
    c.loop-part.invariant ∙ ap (λ ps. chars_of c.args.text.now ++ lines_text (parts_seen ps)) (sym all ∙ c.into_iter-part-iterator.ensures.into_iter_gives.0)

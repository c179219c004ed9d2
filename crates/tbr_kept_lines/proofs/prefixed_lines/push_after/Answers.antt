use Rattle.tbr_kept_lines.proofs.Common.{◌≡◌, [], length, drop, ap, sym, ◌∙◌, subst, rules, eqb-true, nil_from_length, items_of, after_prefixes, Pushes}
use Rattle.std.proofs.lemmas.Bool.{eqb-false}
use Rattle.tbr_wrap.proofs.runs.LinesLeft.{first_of}
use Rattle.tbr_kept_lines.proofs.Prefixes.{after_copy, pushes_first, pushes_none}
use Rattle.tbr_kept_lines.proofs.prefixed_lines.push_after.Goals as goal

pub loop-prefix-smaller : goal.loop-prefix-smaller
loop-prefix-smaller g c = search (rules, first_of, eqb-false, c.is_empty.ensures, c.loop-prefix-test.true, c.in_ok-move_line.ensures.rest)

pub loop-prefix-preserved : goal.loop-prefix-preserved
loop-prefix-preserved g c =
    let eq = g.T.PartialEq.eq in
    let inv = c.loop-prefix.invariant in
    let prefix = c.loop-prefix.prefix.now in
    let others = c.args.others.now in
    let line = c.move_line.new.line in
    let f = first_of c.loop-prefix.ended (λ none. eqb-false _ 0 (sym c.is_empty.ensures ∙ c.loop-prefix-test.true) (ap length none)) in
    let whole =
    after_copy eq g.met.T.Eq.laws prefix c.in_ok-text.text line f.0 inv.merged c.in_ok-text.ensures.elements
    (c.in_ok-move_line.ensures.items f.0 f.1 f.2) c.in_ok-move_line.ensures.merged in
    let rest = c.in_ok-move_line.ensures.rest ∙ ap (drop 1) f.2 in record {
      pushes = λ all h. inv.pushes all (subst (λ ls. Pushes eq c.loop-prefix.lines.items (after_prefixes (items_of prefix) (items_of others) ls) all) (sym f.2)
          (pushes_first eq c.loop-prefix.lines.items c.push.new.self.items all line (items_of prefix) (items_of others) f.0 f.1 c.in_ok-push.ensures.items whole
          (subst (λ ls. Pushes eq c.push.new.self.items (after_prefixes (items_of others) (items_of others) ls) all) rest h)));
      merged = c.requires.others;
    }

pub returns : goal.returns
returns g c =
    let eq = g.T.PartialEq.eq in
    let lines = c.loop-prefix.lines.items in
    let none : c.loop-prefix.ended ≡ [] = nil_from_length c.loop-prefix.ended (eqb-true _ 0 (sym c.is_empty.ensures ∙ c.loop-prefix-test.false)) in
    c.loop-prefix.invariant.pushes lines (subst (λ ls. Pushes eq lines (after_prefixes (items_of c.loop-prefix.prefix.now) (items_of c.args.others.now) ls) lines) (sym none) (pushes_none eq lines))

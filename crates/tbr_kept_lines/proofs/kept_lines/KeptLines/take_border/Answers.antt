use Rattle.tbr_kept_lines.proofs.Common.{◌≡◌, ℕ, Bool, [], ◌∷◌, ◌++◌, if◌then◌else◌, map, length, refl, ap, sym, subst, ◌∙◌, append_assoc, rules, filter, Each, map-append, IsMergedText, Border}
use Rattle.tbr_kept_lines.proofs.Common.{RenderLine, Rule, parts_seen, line_seen, line_has_content, without_last, last_border}
use Rattle.std.specs.Global.{Vec}
use Rattle.std.specs.Prelude.{is_some}
use Rattle.tbr_kept_lines.specs.KeptLines.{HoldsKept}
use Rattle.tbr_kept_lines.specs.declared.kept_lines.KeptLines.TheInside.{Inside}
use Rattle.tbr_kept_lines.proofs.KeptParts.{each_front, some_counted, one_less, none_less, no_border}
use Rattle.tbr_kept_lines.proofs.LastBorder.{border_is, front_is}
use Rattle.tbr_kept_lines.proofs.kept_lines.KeptLines.take_border.Goals as goal
use Rattle.tbr_kept_lines.proofs.kept_lines.KeptLines.take_border.Goals.{then-not-has_holes, else-not-has_holes}

pub returns-in_err-border-clause-border : goal.returns-in_err-border-clause-border
returns-in_err-border-clause-border g c =
    let k = c.self.inside in
    let none = (c.in_err-border.ensures.none refl).1 in
    c.from_residual.ensures ∙ sym (no_border g.T.PartialEq.eq k.above.items k.last.items c.self.invariant.parts none) ∙ ap last_border c.self.view_is

pub returns-in_err-border-clause-rest : goal.returns-in_err-border-clause-rest
returns-in_err-border-clause-rest g c =
    let k = c.self.inside in
    let kept = c.in_err-border.ensures.none refl in
    let none = no_border g.T.PartialEq.eq k.above.items k.last.items c.self.invariant.parts kept.1 in
    ap (λ ls. parts_seen k.above.items ++ map line_seen ls) (ap (λ v. v.items) kept.0) ∙ c.self.view_is
    ∙ ap (λ o. if is_some o then without_last c.args.self.now else c.args.self.now) (sym none ∙ ap last_border c.self.view_is)

pub overflow_sub-self : goal.overflow_sub-self
overflow_sub-self g c =
    some_counted c.in_ok-border.border c.self.inside.last.items c.take_last_border.new.lines.items
    c.in_ok-border.ensures.some c.self.inside.with_content c.self.invariant.content
    (sym c.has_holes.ensures ∙ c.if-not-has_holes.true)

pub invariant_of-self : goal.invariant_of-self
invariant_of-self g c = subst (λ lines. HoldsKept g.T.PartialEq.eq (record c.self.inside { last = lines })) (sym (c.in_err-border.ensures.none refl).0) c.self.invariant

-- what is kept holds without its last border, where so many lines have content then
holds_front : {T : Type 0} (eq : T → T → Bool) (k : Inside T) (lines : Vec (RenderLine T)) (b : Border T) (n : ℕ) → HoldsKept eq k → k.last.items ≡ lines.items ++ Rule b ∷ [] →
    n ≡ length (filter line_has_content (map line_seen lines.items)) → HoldsKept eq (record k { last = lines; with_content = n })
holds_front eq k lines b n h is count = record {
  parts = h.parts;
  content_above = h.content_above;
  merged = each_front (IsMergedText eq) lines.items (Rule b) (subst (λ ls. Each (IsMergedText eq) ls) is h.merged);
  content = count;
}

pub invariant_of-self-then-not-has_holes : goal.invariant_of-self-then-not-has_holes
invariant_of-self-then-not-has_holes g c =
    let is = c.in_ok-border.ensures.some in let h = c.self.invariant in
    holds_front g.T.PartialEq.eq c.self.inside _ c.in_ok-border.border _ h is
    (one_less c.in_ok-border.border _ _ is c.self.inside.with_content h.content (sym c.has_holes.ensures ∙ c.if-not-has_holes.true))

pub invariant_of-self-else-not-has_holes : goal.invariant_of-self-else-not-has_holes
invariant_of-self-else-not-has_holes g c =
    let is = c.in_ok-border.ensures.some in let h = c.self.invariant in
    holds_front g.T.PartialEq.eq c.self.inside _ c.in_ok-border.border _ h is
    (none_less c.in_ok-border.border _ _ is c.self.inside.with_content h.content (sym c.has_holes.ensures ∙ c.if-not-has_holes.false))

pub returns-clause-border : goal.returns-clause-border
returns-clause-border g c = search (rules, map-append, append_assoc, border_is, c.self.view_is, c.in_ok-border.ensures.some)

pub returns-clause-rest : goal.returns-clause-rest
returns-clause-rest g c = search (rules, map-append, append_assoc, front_is, then-not-has_holes, else-not-has_holes, c.self.view_is, c.in_ok-border.ensures.some)

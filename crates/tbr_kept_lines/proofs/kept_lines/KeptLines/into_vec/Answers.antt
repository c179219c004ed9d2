use Rattle.tbr_kept_lines.proofs.Common.{◌≡◌, ◌++◌, [], map, ap, sym, ◌∙◌, subst, AllZip, eqb-true, nil_from_length, parts_seen, line_seen, SameSeen}
use Rattle.tbr_kept_lines.proofs.KeptParts.{same_lines, lines_after}
use Rattle.tbr_kept_lines.proofs.kept_lines.KeptLines.into_vec.Goals as goal

pub returns-then-is_empty-clause-lines : goal.returns-then-is_empty-clause-lines
returns-then-is_empty-clause-lines g c =
    let eq = g.T.PartialEq.eq in
    let k = c.self.inside in
    let last = map line_seen k.last.items in
    let none : k.above.items ≡ [] = nil_from_length k.above.items (sym k.above.ok.0 ∙ eqb-true _ 0 (sym c.if-is_empty.ensures)) in
    subst (λ ls. AllZip (SameSeen eq) last ls) (ap (λ ps. parts_seen ps ++ last) (sym none) ∙ c.self.view_is) (same_lines eq g.met.T.Eq.laws last)

pub returns-clause-lines : goal.returns-clause-lines
returns-clause-lines g c =
    let eq = g.T.PartialEq.eq in
    let k = c.self.inside in
    subst (λ ls. AllZip (SameSeen eq) (map line_seen c.append_all.new.items.items) ls) c.self.view_is
    (subst (λ ls. AllZip (SameSeen eq) (map line_seen ls) (parts_seen k.above.items ++ map line_seen k.last.items)) (sym c.in_ok-append_all.ensures.ok)
    (lines_after eq g.met.T.Eq.laws c.in_ok-lines.lines.items k.last.items (parts_seen k.above.items) c.in_ok-lines.ensures.lines))

use Rattle.std.proofs.Common.{◌++◌, ◌∷◌, [], map, chars, ap, sym, subst, ◌∙◌}
use Rattle.std.proofs.lemmas.Iterator.Consumers.{YieldsList-from_deque, YieldsList-end}
use Rattle.std.proofs.lemmas.List.{map_push}
use Rattle.std.proofs.lemmas.Str.{chars-nil}
use Rattle.tbr_tagged.specs.View.{chars_of}
use Rattle.tbr_c_lines.specs.Formats.{AreShown, ShowsLine}
use Rattle.tbr_c_lines.proofs.Shown.{one_more_shown}
use Rattle.tbr_c_lines.proofs.lines.shown_anew.Goals as goal

pub loop-line-init : goal.loop-line-init
loop-line-init g c = ap chars c.new-text.ensures.bytes ∙ chars-nil

pub loop-line-preserved : goal.loop-line-preserved
loop-line-preserved g c =
    let Shows = ShowsLine g.A.Tag.meaning g.A.Tag.same g.A.PartialEq.eq g.A.Annotation.shown c.args.is_bare c.args.format in
    let pushed = c.in_ok-append_shown.ensures in
    let so_far = map (λ line. line.now) c.loop-line.yielded in
    let line = c.in-Some.line in
    let shown = one_more_shown Shows so_far line.now (chars_of c.loop-line.text) pushed.0 c.loop-line.invariant pushed.1 in
    let named = subst (λ cs. AreShown Shows (so_far ++ line.now ∷ []) cs) (sym pushed.2) shown in
    subst (λ ls. AreShown Shows ls (chars_of c.append_shown.new.text)) (sym (map_push (λ l. l.now) c.loop-line.yielded line)) named

pub returns : goal.returns
returns g c =
    let Shows = ShowsLine g.A.Tag.meaning g.A.Tag.same g.A.PartialEq.eq g.A.Annotation.shown c.args.is_bare c.args.format in
    let given = c.into_iter-line-iterator.ensures.into_iter_gives in
    let list = YieldsList-from_deque c.args.lines.now.items given.0 in
    let end = YieldsList-end list c.loop-line.yielded c.loop-line.line-iterator c.loop-line.yielded_by c.next.result c.next.new.self c.in-None.is c.next.ensures.steps in
    subst (λ ls. AreShown Shows ls (chars_of c.loop-line.text)) end.0 c.loop-line.invariant

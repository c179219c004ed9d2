use Rattle.tbr_view.proofs.Common.{◌++◌, chars, ap, sym, ◌∙◌, [], ◌∷◌, subst, AreShown, ShowsLine, chars_of}
use Rattle.std.proofs.lemmas.Str.{chars-nil}
use Rattle.tbr_view.proofs.ShownLines.{one_more_shown}
use Rattle.tbr_view.proofs.show.show.Goals as goal

pub loop-line-init : goal.loop-line-init
loop-line-init g c = ap chars c.new-text.ensures.bytes ∙ chars-nil

pub loop-line-preserved : goal.loop-line-preserved
loop-line-preserved g c =
    let Shows = ShowsLine g.T.Tag.meaning g.T.PartialEq.eq g.T.Annotation.rich g.W.CharWidth.columns c.args.format in
    let pushed = c.in_ok-push_line.ensures in
    subst (AreShown Shows (c.loop-line.yielded ++ c.in-Some.line ∷ [])) (sym pushed.2)
    (one_more_shown Shows c.loop-line.yielded c.in-Some.line (chars_of c.loop-line.text) pushed.0 c.loop-line.invariant pushed.1)

use Rattle.tbr_renderer.proofs.Common.{List, ◌++◌, chars, ap, ◌∙◌, items_of, text_items, Renderer}
use Rattle.tbr_renderer.proofs.AppendedLines.{later_prefix, texts_more}
use Rattle.tbr_renderer.proofs.sub.SubRenderer.add_texts_after.Goals as goal

pub loop-line-preserved : goal.loop-line-preserved
loop-line-preserved g c =
    let inv = c.loop-line.invariant in let now = c.loop-line.self in let prefix = chars c.loop-line.prefix.now in
    let first = chars c.args.first.now in let others = chars c.args.others.now in
    let line = c.in_ok-add_line.ensures.line in
    record {
      texts = texts_more g.W.CharWidth.columns c.args.self.now first others c.loop-line.yielded c.in-Some.line now c.add_line.new.self prefix (items_of c.put_in_front.new.text) inv.texts inv.prefix
          (c.in_ok-put_in_front.ensures.items ∙ ap (λ is. text_items prefix now.annotations ++ is) c.in_ok-text.ensures.items)
          line c.in_ok-add_line.ensures.settings (ap (λ (r : Renderer g.row.D.Denot g.row.D-Annotation-Meaning.Denot (List g.row.D-Annotation-Meaning.Denot)). r.failure) line ∙ inv.texts.unfailed);
      prefix = later_prefix first others c.loop-line.yielded c.in-Some.line;
      utf8 = c.utf8.others;
    }

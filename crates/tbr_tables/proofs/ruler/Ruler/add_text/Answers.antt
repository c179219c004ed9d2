use Rattle.std.proofs.Common.{fold, sym, ◌∙◌, ap, map-id}
use Rattle.std.proofs.lemmas.Iterator.{YieldsList-from_chars}
use Rattle.std.proofs.lemmas.Iterator.Consumers.{YieldsList-end}
use Rattle.tbr_tables.specs.Ruler.{after_char}
use Rattle.tbr_tables.proofs.ruler.Ruler.add_text.Goals as goal

pub returns : goal.returns
returns g c =
    let end = YieldsList-end (YieldsList-from_chars c.args.text.now c.utf8.text cc) c.loop-c.yielded _ c.loop-c.yielded_by _ _ c.in-None.is c.next.ensures.steps in
    c.loop-c.invariant ∙ ap (fold (after_char g.W.CharWidth.columns c.args.mode) c.args.self.now) (sym (map-id c.loop-c.yielded) ∙ end.0)

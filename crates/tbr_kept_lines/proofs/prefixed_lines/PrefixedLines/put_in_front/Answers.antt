use Rattle.tbr_kept_lines.proofs.Common.{chars, text_items}
use Rattle.tbr_kept_lines.proofs.Prefixes.{in_front_of}
use Rattle.tbr_kept_lines.proofs.prefixed_lines.PrefixedLines.put_in_front.Goals as goal

pub returns : goal.returns
returns g c =
    let eq = g.T.PartialEq.eq in
    rw (← c.self.view_is) (in_front_of eq g.met.T.Eq.laws c.self.inside.prefixes c.none.result c.unwrap_or-prefixes.result c.none.ensures c.unwrap_or-prefixes.ensures
    (text_items (chars c.args.first.now) c.args.tag.now) (text_items (chars c.args.others.now) c.args.tag.now) c.put_in_front.new.line c.put_in_front-2.new.line
    c.in_ok-put_in_front.ensures.items c.in_ok-put_in_front-2.ensures.items c.self.inside.ended)

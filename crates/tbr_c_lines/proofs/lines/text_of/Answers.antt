use Rattle.std.proofs.Common.{flat_map, chars, ap, ◌∙◌, append-nil, rules}
use Rattle.std.proofs.lemmas.Iterator.Consumers.{YieldsList-from_deque, YieldsList-end}
use Rattle.std.proofs.lemmas.List.{map_push}
use Rattle.std.proofs.lemmas.List.Concat.{flat_map-append}
use Rattle.std.proofs.lemmas.Str.{chars-nil}
use Rattle.tbr_c_lines.specs.Lines as left
use Rattle.tbr_c_lines.proofs.lines.text_of.Goals as goal

pub loop-line-init : goal.loop-line-init
loop-line-init g c = ap chars c.new-text.ensures.bytes ∙ chars-nil

pub loop-line-preserved : goal.loop-line-preserved
loop-line-preserved g c = search (rules, map_push, flat_map-append, append-nil, c.in_ok-append_line.ensures, c.loop-line.invariant)

pub returns : goal.returns
returns g c =
    let given = c.into_iter-line-iterator.ensures.into_iter_gives in
    let list = YieldsList-from_deque c.args.lines.now.items given.0 in
    let end = YieldsList-end list c.loop-line.yielded c.loop-line.line-iterator c.loop-line.yielded_by c.next.result c.next.new.self c.in-None.is c.next.ensures.steps in
    c.loop-line.invariant ∙ ap (flat_map left.line_text) end.0

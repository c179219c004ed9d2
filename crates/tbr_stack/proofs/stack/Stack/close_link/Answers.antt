use Rattle.std.proofs.Common.{◌<◌, ◌-◌, length, map, refl, ap, ◌∙◌}
use Rattle.std.proofs.lemmas.List.{length-reverse}
use Rattle.tbr_tagged.specs.View.{chars_of}
use Rattle.tbr_stack.specs.Links.{closed, without_open_link}
use Rattle.tbr_stack.proofs.Levels.{IsLast, last_at, changed_by}
use Rattle.tbr_stack.proofs.stack.Stack.close_link.Goals as goal

pub returns : goal.returns
returns g c =
    let s = c.self.inside in
    let level = c.index_mut.result.now in
    let some : 0 < length s.levels.items = rw (← length-reverse s.levels.items, ap (λ t. length t.levels) c.self.view_is) c.requires in
    let last : IsLast s.levels.items (c.len-last.result - 1) level = last_at s.levels.items _ level some (rw (c.len-last.ensures, s.levels.ok.0) refl) c.index_mut.ensures.value in
    ap (λ levels. record { levels = levels; links = map chars_of s.links.items; table_depth = s.table_depth }) (changed_by closed s.levels.items _ level _ last c.close.ensures)
    ∙ ap (λ t. without_open_link t) c.self.view_is

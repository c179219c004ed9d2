use Rattle.std.proofs.Common.{◌<◌, ◌-◌, length, map, Some, refl, sym, ap, ◌∙◌}
use Rattle.std.proofs.lemmas.List.{length-reverse}
use Rattle.tbr_tagged.specs.View.{chars_of}
use Rattle.tbr_stack.specs.Stack.{with_top, top_of, first_renderer}
use Rattle.tbr_stack.proofs.Levels.{IsLast, last_at, changed_by}
use Rattle.tbr_stack.proofs.stack.Stack.top_mut.Goals as goal

pub returns : goal.returns
returns g c =
    let s = c.self.inside in
    let level = c.index_mut.result.now in
    let some : 0 < length s.levels.items = rw (← length-reverse s.levels.items, ap (λ t. length t.levels) c.self.view_is) c.requires in
    let last : IsLast s.levels.items (c.len-last.result - 1) level = last_at s.levels.items _ level some (rw (c.len-last.ensures, s.levels.ok.0) refl) c.index_mut.ensures.value in (
      (
        refl,
        λ w. ap (λ levels. record {
          levels = levels;
          links = map chars_of s.links.items;
          table_depth =
              s.table_depth;
        }) (changed_by (λ l. record l { renderer = w }) s.levels.items _ level _ last refl) ∙ ap (λ t. with_top t w) c.self.view_is,
      ),
      record { writes_back = tt; top = ap (λ t. top_of t) (sym c.self.view_is) ∙ ap first_renderer last.found ∙ ap Some (sym c.renderer_mut.ensures.renderer) },
    )

use Rattle.std.proofs.Common.{◌≡◌, ◌<◌, ◌-◌, ◌+◌, ◌++◌, ◌∷◌, [], length, map, reverse, chars, refl, sym, ap, ◌∙◌}
use Rattle.std.proofs.lemmas.List.{length-reverse, length-map, map-append}
use Rattle.tbr_tagged.specs.View.{chars_of}
use Rattle.tbr_stack.specs.Stack.{in_first}
use Rattle.tbr_stack.specs.Links.{opened, with_link}
use Rattle.tbr_stack.proofs.Levels.{IsLast, last_at, changed_by}
use Rattle.tbr_stack.proofs.stack.Stack.open_link.Goals as goal

pub returns-clause-ok : goal.returns-clause-ok
returns-clause-ok g c =
    let s = c.self.inside in
    let level = c.index_mut.result.now in
    let place = length (map chars_of s.links.items) + 1 in
    let some : 0 < length s.levels.items = rw (← length-reverse s.levels.items, ap (λ t. length t.levels) c.self.view_is) c.requires in
    let last : IsLast s.levels.items (c.len-last.result - 1) level = last_at s.levels.items _ level some (rw (c.len-last.ensures, s.levels.ok.0) refl) c.index_mut.ensures.value in
    let at : c.len-place.result + 1 ≡ place = ap (λ n. n + 1) (c.len-place.ensures ∙ c.reserve.ensures.len ∙ s.links.ok.0 ∙ sym (length-map s.links.items chars_of)) in
    let is : c.open.new.self ≡ opened place level = (c.in_ok-open.ensures).ok ∙ ap (λ p. opened p level) at in
    let links : map chars_of c.push.new.self.items ≡ map chars_of s.links.items ++ chars c.args.target.now ∷ [] =
    ap (map chars_of) ((c.in_ok-push.ensures).items ∙ ap (λ ls. ls ++ c.in_ok-target.target ∷ []) c.reserve.ensures.items) ∙ map-append chars_of s.links.items (c.in_ok-target.target ∷ [])
    ∙ ap (λ b. map chars_of s.links.items ++ chars b ∷ []) (c.in_ok-target.ensures).ok in
    ap (λ levels. record { levels = levels; links = map chars_of c.push.new.self.items; table_depth = s.table_depth }) (changed_by (opened place) s.levels.items _ level _ last is)
    ∙ ap (λ ls. record { levels = in_first (opened place) (reverse s.levels.items); links = ls; table_depth = s.table_depth }) links
    ∙ ap (λ t. with_link (chars c.args.target.now) t) c.self.view_is

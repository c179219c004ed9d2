use Rattle.tbr_renderer.proofs.Common.{[], ◌∷◌, List, refl, ap, sym, ◌∙◌, subst, string_bytes, entry, marker_entry, Renderer, with_events, block_width, may_overflow, IsFresh}
use Rattle.tbr_renderer.proofs.JoinedTexts.{fresh_marked, marked, block_grown}
use Rattle.tbr_renderer.proofs.sub.SubRenderer.try_add_marker.Goals as goal

pub put_block-requires : goal.put_block-requires
put_block-requires g c =
    let R = Renderer g.row.D.Denot g.row.D-Annotation-Meaning.Denot (List g.row.D-Annotation-Meaning.Denot) in
    let columns = g.W.CharWidth.columns in let old = c.args.self.now in
    let name = string_bytes c.in_ok-name.name in
    let e = (c.in_ok-add_element.ensures.answers name refl).ok in
    let fresh = fresh_marked columns (block_width old) (may_overflow old) c.in_ok-block.block c.add_element.new.self name e c.in_ok-block.ensures.fresh in
    subst (λ (r : R). IsFresh columns (block_width r) (may_overflow r) c.add_element.new.self) (sym c.in_ok-block.ensures.rest) fresh

pub returns-clause-ok : goal.returns-clause-ok
returns-clause-ok g c =
    let columns = g.W.CharWidth.columns in let old = c.args.self.now in
    let name = string_bytes c.in_ok-name.name in
    let e = (c.in_ok-add_element.ensures.answers name refl).ok in
    let written = marked columns (block_width old) (may_overflow old) c.in_ok-block.block c.add_element.new.self name e in
    block_grown old c.take_or_new_block.new.self c.put_block.new.self c.in_ok-block.block c.add_element.new.self
    (entry (marker_entry name) ∷ []) c.in_ok-block.ensures.rest c.in_ok-block.ensures.block written c.put_block.ensures
    ∙ ap (λ (bytes : List _). with_events old (entry (marker_entry bytes) ∷ [])) c.in_ok-name.ensures.ok

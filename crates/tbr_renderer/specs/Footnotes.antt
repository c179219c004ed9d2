-- The targets of links, which are after a document.
use Rattle.std.specs.Prelude.{ℕ, Option, Some, None, if◌then◌else◌, List, [], flat_map, fold}
use Rattle.tbr_model.specs.Run.{Item}
use Rattle.tbr_tagged.specs.Elements.{Element}
use Rattle.tbr_footnotes.specs.Footnote.{footnote_items, cut_lines}
use Rattle.tbr_renderer.specs.Renderer.{Renderer, with_line}
use Rattle.tbr_renderer.specs.declared.options.RenderOptions.{RenderOptions}

-- the targets that are listed: none without footnotes
abbrev pub listed : RenderOptions → List (List ℕ) → List (List ℕ)
listed options targets = if options.include_link_footnotes then targets else []

-- the width to which a footnote's lines are cut, where links are wrapped
abbrev pub link_width : RenderOptions → ℕ → Option ℕ
link_width options width = if options.wrap_links then Some width else None

module _ {D A : Type 0} (columns : ℕ → Option ℕ) where
  -- one line where links aren't wrapped, and else as many as its characters need at the renderer's width
  abbrev pub footnote_lines : Renderer D A (List A) → List (Element A) → List (List (Item (List A)))
  footnote_lines r es = cut_lines columns (link_width r.options r.width) [] (footnote_items es)

  -- the footnotes come after the lines, and the open run stays open
  abbrev pub with_footnotes : Renderer D A (List A) → List (List (Element A)) → Renderer D A (List A)
  with_footnotes r footnotes = fold (with_line columns) r (flat_map (footnote_lines r) footnotes)

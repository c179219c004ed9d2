-- What comes at the end of a script.
use Rattle.std.specs.Prelude.{ℕ, Option, List, [], ◌∷◌, encode_utf8_all}
use Rattle.tbr_tagged.specs.Elements.{Element}
use Rattle.tbr_decor.specs.Change as change
use Rattle.tbr_decor.specs.Decoration.{Decoration}
use Rattle.tbr_tagged.specs.Outcome.{Outcome}
use Rattle.tbr_renderer.specs.Outcomes.{changed}
use Rattle.tbr_renderer.specs.Footnotes.{listed, with_footnotes}
use Rattle.tbr_renderer.specs.Renderer.{Renderer}
use Rattle.tbr_kept_lines.specs.Line.{Line}
use Rattle.tbr_renderer.specs.Steps.{block_started}
use Rattle.tbr_kept_lines.specs.Text.{lines_text}
use Rattle.tbr_renderer.specs.Flush.{after_flush}

-- footnotes come after the lines as a block of their own, if there are any
abbrev pub with_notes :
    {D M : Type 0} → (ℕ → Option ℕ) → List (List (Element M)) → Renderer D M (List M) → Renderer D M (List M)
with_notes columns [] r = r
with_notes columns (note ∷ notes) r = with_footnotes columns (block_started columns r) (note ∷ notes)

module _ {D M : Type 0} (columns : ℕ → Option ℕ) (decoration : Decoration D M) (targets : List (List ℕ)) where
  -- the footnotes of links to these targets
  abbrev pub footnotes_of : Renderer D M (List M) → List (List (Element M))
  footnotes_of r = decoration.footnotes r.decorator (listed r.options targets)

  -- the renderer whose decorator was asked for them
  abbrev pub finalised : Renderer D M (List M) → Renderer D M (List M)
  finalised r =
      record r { decorator = decoration.after r.decorator (change.finalise (listed r.options targets)) }

  -- the lines after a flush, and the footnotes after them
  abbrev pub closed : Renderer D M (List M) → Outcome (List (Line (List M)))
  closed r = changed (λ s. let t = with_notes columns (footnotes_of r) s in t.lines) (after_flush columns (finalised r))

  -- and their text, as bytes
  abbrev pub closed_text : Renderer D M (List M) → Outcome (List ℕ)
  closed_text r = changed (λ lines. encode_utf8_all (lines_text lines)) (closed r)

-- Calls, rows of cells and footnotes, as what is done to a renderer.
use Rattle.std.specs.Prelude.{ℕ, Bool, Option, List}
use Rattle.std.specs.Cmp.Lexicographic.{pointwise}
use Rattle.tbr_tagged.specs.Elements.{Element}
use Rattle.tbr_tagged.specs.Outcome.{Outcome, done, if_live}
use Rattle.tbr_decor.specs.Change as change
use Rattle.tbr_decor.specs.Decoration.{Decoration}
use Rattle.tbr_renderer.specs.Renderer.{Renderer}
use Rattle.tbr_renderer.specs.Footnotes.{listed, with_footnotes}
use Rattle.tbr_renderer.specs.Rows.{GivenCell, after_row}
use Rattle.tbr_renderer.specs.Calls.{Call, after}

-- What is done to a renderer: a call, or a row of cells side by side, with whether it collapses. Or footnotes come, or
-- the decorator is asked for those of these targets.
pub data Act (A : Type 0) : Type 0 where
  call : Call (List A) → Act A
  row : Bool → List (GivenCell (List A)) → Act A
  fmt_links : List (List (Element A)) → Act A
  finalise : List (List ℕ) → Act A

module _ {D A : Type 0} (columns : ℕ → Option ℕ) (decoration : Decoration D A) where
  -- what one makes of a renderer
  abbrev pub after_act : Act A → Renderer D A (List A) → Outcome (Renderer D A (List A))
  after_act (call c) r = after columns decoration c r
  after_act (row collapses cells) r = after_row (pointwise decoration.same) columns collapses cells r
  after_act (fmt_links links) r = if_live r.failure (done (with_footnotes columns r links))
  after_act (finalise targets) r =
      if_live r.failure (done (record r {
        decorator = decoration.after r.decorator (change.finalise (listed r.options targets));
      }))

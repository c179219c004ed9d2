-- Lines at the end of a program.
use Rattle.tbr_c.proofs.Common.{◌≡◌, ℕ, Bool, Option, List, Ok, Err, encode_utf8_all, refl, ap, ◌∙◌, TooNarrow, shown_links}
use Rattle.std.proofs.Common.{[], ◌∷◌, ◌++◌, map, flat_map}
use Rattle.tbr_model.specs.Codes.{newline_character}
use Rattle.tbr_border.specs.Border.{shown}
use Rattle.tbr_border.specs.declared.RenderLine.{RenderLine}
use Rattle.tbr_border.specs.declared.RenderLine.TheVariants.{Text, Line as Rule}
use Rattle.tbr_tagged.specs.Elements.{items_of}
use Rattle.tbr_tagged.specs.Outcome.{Outcome, done, refused}
use Rattle.tbr_tagged.specs.Walks.{item_characters}
use Rattle.tbr_tagged.specs.declared.Error.TheVariants as block
use Rattle.tbr_decor.specs.Decoration.{Decoration}
use Rattle.tbr_kept_lines.specs.Line.{Line, line_seen}
use Rattle.tbr_renderer.specs.Outcomes.{changed}
use Rattle.tbr_kept_lines.specs.Text.{lines_text}
use Rattle.tbr_stack.specs.Top.{OfTop}
use Rattle.tbr_program.specs.Progress.{Progress}
use Rattle.tbr_program.specs.Closing.{closed}
use Rattle.tbr_program.specs.Commands.{ended, answered}
use Rattle.tbr_program.proofs.MadeCommands.{text_given}
use Rattle.tbr_c_lines.specs.Lines.{line_text}

seen_text : {T : Type 0} (lines : List (RenderLine T)) → lines_text (map line_seen lines) ≡ flat_map line_text lines
seen_text [] = refl
seen_text (Text es ∷ lines) = ap (λ cs. (item_characters (items_of es) ++ newline_character ∷ []) ++ cs) (seen_text lines)
seen_text (Rule b ∷ lines) = ap (λ cs. (item_characters (shown b.tag b) ++ newline_character ∷ []) ++ cs) (seen_text lines)

module _ {D A : Type 0} (columns : ℕ → Option ℕ) (decoration : Decoration D A) (p : Progress D A (List A)) (no_level : p.opened ≡ []) (no_cell : p.pending.cells ≡ []) (raw : Bool) where
  abbrev Closes : Outcome (List (Line (List A))) → Type 0
  Closes given = OfTop (λ r. closed columns decoration (let q = shown_links raw p in let s = q.stack in s.links) r ≡ given) p.stack

  ends : (given : Outcome (List (Line (List A)))) → Closes given → ended columns decoration 0 (shown_links raw p) ≡ answered (changed (λ lines. encode_utf8_all (lines_text lines)) given)
  ends given (top, is, h) =
      text_given columns decoration 0 (shown_links raw p) (shown_links raw p) refl
      (let q = shown_links raw p in let s = q.stack in s.links) refl top is no_level no_cell
      (changed (λ lines. encode_utf8_all (lines_text lines)) given)
      (ap (changed (λ lines. encode_utf8_all (lines_text lines))) h)

  pub lines_end : (lines : List (RenderLine (List A))) → Closes (done (map line_seen lines)) → ended columns decoration 0 (shown_links raw p) ≡ Ok (encode_utf8_all (flat_map line_text lines))
  lines_end lines h = ends _ h ∙ ap (λ cs. Ok (encode_utf8_all cs)) (seen_text lines)

  pub narrow_end : Closes (refused block.TooNarrow) → ended columns decoration 0 (shown_links raw p) ≡ Err TooNarrow
  narrow_end h = ends (refused block.TooNarrow) h

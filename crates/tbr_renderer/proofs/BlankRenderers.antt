-- Renderers with nothing in them.
use Rattle.tbr_renderer.proofs.Common.{◌≡◌, ℕ, not, true, Option, None, Some, List, [], ◌∷◌, refl, ap, arith, lines, Line, Open, Renderer, done, live_done, handed_out, lines_at_end}
use Rattle.tbr_renderer.proofs.Common.{after_block, is_blank}
use Rattle.std.proofs.lemmas.Bool.{and_parts}
use Rattle.tbr_wrap.specs.Runs.{is_some_list}
use Rattle.tbr_wrap.proofs.runs.BlockLaws.{none_ended}
use Rattle.tbr_renderer.proofs.OutcomeParts.{one_done, done_before}
use Rattle.tbr_renderer.proofs.FlushedBlocks.{block_ended}
use Rattle.tbr_renderer.specs.Rows.{block_is_blank}

none_of_not : {X : Type 0} (xs : List X) → not (is_some_list xs) ≡ true → xs ≡ []
none_of_not [] h = refl
none_of_not (x ∷ xs) h = cc

-- ---- it hands out no line

module _ {D A : Type 0} (columns : ℕ → Option ℕ) (r s : Renderer D A (List A)) where
  no_line_ends : (b : Open (List A)) → block_is_blank columns r (Some b) ≡ true → lines_at_end columns r b ≡ []
  no_line_ends b blank = grind (arith, and_parts, none_ended, none_of_not)

  none_come : (o : Option (Open (List A))) → block_is_blank columns r o ≡ true → after_block columns r o ≡ done s → s.lines ≡ r.lines
  none_come None blank h = ap (λ (q : Renderer D A (List A)). q.lines) (one_done r s h)
  none_come (Some b) blank h = grind (arith, block_ended, no_line_ends)

pub blank_hands_none : {D A : Type 0} (columns : ℕ → Option ℕ) (r : Renderer D A (List A)) (lines : List (Line (List A))) → is_blank columns r ≡ true → handed_out columns r ≡ done lines → lines ≡ []
blank_hands_none {D} {A} columns r lines blank h = grind (arith, done_before, live_done, and_parts, none_come, none_of_not)

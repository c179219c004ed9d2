-- The lines at the end of a script.
use Rattle.tbr_program.proofs.Common.{◌≡◌, ◌==◌, ℕ, true, false, Option, None, List, [], ◌∷◌, fold, flat_map, length, chars, encode_utf8_all, refl, sym, ap, ◌∙◌, arith, false≢true, eqb-true}
use Rattle.tbr_program.proofs.Common.{encodes-chars, Decoration, Renderer, Open, with_line, Line, lines_text, Outcome, done, refused, changed, handed_out, start_block, after, with_notes}
use Rattle.tbr_program.proofs.Common.{footnotes_of, finalised}
use Rattle.std.specs.Str.{IsUtf8}
use Rattle.tbr_model.specs.Run.{Item}
use Rattle.tbr_tagged.specs.Elements.{Element}
use Rattle.tbr_decor.specs.Meant.{lines_meant}
use Rattle.tbr_renderer.specs.Footnotes.{footnote_lines, with_footnotes}
use Rattle.tbr_renderer.specs.Steps.{block_started, after_block_start}
use Rattle.tbr_tagged.specs.declared.Error.TheVariants as E
use Rattle.tbr_tagged.proofs.Outcomes.{live_done, live_goes, live_refused}
use Rattle.tbr_renderer.proofs.OutcomeParts.{one_done, done_before, refused_before}
use Rattle.tbr_renderer.proofs.FlushedBlocks.{flushes}
use Rattle.tbr_renderer.proofs.SettingsStay.{Steady, started_alike}
use Rattle.tbr_renderer.specs.Flush.{after_block, after_flush}
use Rattle.tbr_renderer.proofs.FlushedBlocks.{flushed_none}
use Rattle.tbr_program.specs.Closing.{closed}

-- ---- footnotes open no block

module _ {D A : Type 0} (columns : ℕ → Option ℕ) where
  lines_block : (texts : List (List (Item (List A)))) (r : Renderer D A (List A)) → (let s = fold (with_line columns) r texts in s.block) ≡ r.block
  lines_block [] r = refl
  lines_block (t ∷ ts) r = lines_block ts (with_line columns r t)

  lines_failure : (texts : List (List (Item (List A)))) (r : Renderer D A (List A)) → (let s = fold (with_line columns) r texts in s.failure) ≡ r.failure
  lines_failure [] r = refl
  lines_failure (t ∷ ts) r = lines_failure ts (with_line columns r t)

  begun_block : (r : Renderer D A (List A)) → (let s = block_started columns r in s.block) ≡ r.block
  begun_block r = grind arith

-- ---- with footnotes and without

no_lines : {A M : Type 0} (f : A → M) (lines : List (List (Element A))) → (length lines == 0) ≡ true → lines_meant f lines ≡ []
no_lines f [] e = refl
no_lines f (line ∷ lines) e = let no : length (line ∷ lines) ≡ 0 = eqb-true (length (line ∷ lines)) 0 e in absurd cc

some_lines : {D A M : Type 0} (columns : ℕ → Option ℕ) (f : A → M) (lines : List (List (Element A))) (r : Renderer D M (List M)) → (length lines == 0) ≡ false →
    with_notes columns (lines_meant f lines) r ≡ with_footnotes columns (block_started columns r) (lines_meant f lines)
some_lines columns f [] r e = absurd (false≢true (sym e))
some_lines columns f (line ∷ lines) r e = refl

-- the bytes of lines
pub text_of_lines : {M : Type 0} (given : Outcome (List (Line (List M)))) (text : List ℕ) → IsUtf8 text →
    changed lines_text given ≡ done (chars text) → changed (λ lines. encode_utf8_all (lines_text lines)) given ≡ done text
text_of_lines (done lines) text is_text h = ap (λ bytes. done bytes) (ap encode_utf8_all (sym (one_done (lines_text lines) (chars text) h)) ∙ encodes-chars text is_text)
text_of_lines (refused e) text is_text h = absurd (let no : ⊥ = cc in no)

module _ {D M : Type 0} (columns : ℕ → Option ℕ) (decoration : Decoration D M) (targets : List (List ℕ)) (r : Renderer D M (List M)) (live : r.failure ≡ None) where
  abbrev asked : Renderer D M (List M)
  asked = finalised columns decoration targets r

  -- the flush that begins the footnotes' block is refused
  pub closing_refused : after columns decoration start_block asked ≡ refused E.TooNarrow → closed columns decoration targets r ≡ refused E.TooNarrow
  closing_refused h = grind (arith, refused_before, live_refused)

  module _ {A : Type 0} (f : A → M) (lines : List (List (Element A))) where
    pub closed_without : lines_meant f lines ≡ footnotes_of columns decoration targets r → (length lines == 0) ≡ true → handed_out columns asked ≡ closed columns decoration targets r
    closed_without are none =
        live_goes r.failure (changed (λ s. s.lines) (after_flush columns asked)) live
        ∙ ap (λ (notes : List (List (Element M))). changed (λ s. let t = with_notes columns notes s in t.lines) (after_flush columns asked)) (sym (no_lines f lines none) ∙ are)

    module _ (begun noted : Renderer D M (List M)) (starts : after columns decoration start_block asked ≡ done begun) (is : noted ≡ with_footnotes columns begun (lines_meant f lines)) where
      pub closed_with : lines_meant f lines ≡ footnotes_of columns decoration targets r → (length lines == 0) ≡ false → handed_out columns noted ≡ closed columns decoration targets r
      closed_with are some =
          let (s, flush, begins) = done_before (block_started columns) (after_flush columns asked) begun (live_done r.failure (after_block_start columns asked) begun starts).1 in
          let all : noted ≡ with_footnotes columns (block_started columns s) (lines_meant f lines) = is ∙ ap (λ (q : Renderer D M (List M)). with_footnotes columns q (lines_meant f lines)) begins in
          let texts = flat_map (footnote_lines columns (block_started columns s)) (lines_meant f lines) in
          let none_open : noted.block ≡ None = ap (λ (q : Renderer D M (List M)). q.block) all
          ∙ lines_block columns texts (block_started columns s) ∙ begun_block columns s
          ∙ flushed_none columns asked s (flushes columns asked s flush) in
          let unfailed : noted.failure ≡ None =
          ap (λ (q : Renderer D M (List M)). q.failure) is ∙ lines_failure columns (flat_map (footnote_lines columns begun) (lines_meant f lines)) begun
          ∙ ap (λ (x : Steady D M). x.failure) (started_alike columns asked begun (live_done r.failure (after_block_start columns asked) begun starts).1) ∙ live in
          let out : handed_out columns noted ≡ done noted.lines =
          live_goes noted.failure (changed (λ q. q.lines) (after_flush columns noted)) unfailed ∙ ap (λ (o : Option (Open (List M))). changed (λ q. q.lines) (after_block columns noted o)) none_open in
          out
          ∙ ap (λ (q : Renderer D M (List M)). done q.lines) (all ∙ sym (some_lines columns f lines s some) ∙ ap (λ (notes : List (List (Element M))). with_notes columns notes s) are)
          ∙ ap (changed (λ q. let t = with_notes columns (footnotes_of columns decoration targets r) q in t.lines)) (sym flush)

-- nothing has failed
pub unfailed : {D A M : Type 0} (columns : ℕ → Option ℕ) (f : A → M) (lines : List (List (Element A)))
    (begun noted : Renderer D M (List M)) → noted ≡ with_footnotes columns begun (lines_meant f lines) → begun.failure ≡ None → noted.failure ≡ None
unfailed {D} {A} {M} columns f lines begun noted is live = grind (arith, lines_failure)

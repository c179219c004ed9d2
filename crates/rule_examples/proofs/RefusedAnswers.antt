-- The smallest wrong answers that laws of calls and of scripts refuse, and the right ones.
use Rattle.rule_examples.proofs.Common.{◌≡◌, ℕ, false, List, [], ◌∷◌, ◌++◌, Ok, refl, sym, ap, ◌∙◌, codes, done, border, and_then, add_inline_text, rendered}
use Rattle.std.specs.Str.{chars, is_utf8}
use Rattle.std.specs.Fmt.{digits}
use Rattle.std.proofs.Math.Utf8.{encode}
use Rattle.rule_examples.proofs.Common.{example_columns, page_under_border, cell, after_rows, lines_on}
use Rattle.std.proofs.Common.{Some, subst}
use Rattle.tbr_border.specs.Border.{Border}
use Rattle.tbr_kept_lines.specs.Line.{Line, text}
use Rattle.tbr_kept_lines.specs.LastBorder.{before_border}
use Rattle.tbr_renderer.specs.Steps.{after_empty_line}
use Rattle.tbr_script.specs.Script.{IsText}
use Rattle.tbr_script.specs.Read.{text_read}
use Rattle.tbr_script.proofs.Reading.{text_written}
use Rattle.script_laws.specs.Named.{NamesCall}

-- ---- borders

-- a row leaves a border that an empty line parts from it
pub a_row_joins_no_border_before_an_empty_line :
    lines_on (after_rows false (
    (cell 1 1 (codes "1" ∷ []) ∷ cell 1 1 (codes "2" ∷ []) ∷ [])
    ∷ []) (and_then (page_under_border 12 3) (after_empty_line example_columns)))
    ≡ done (codes "───" ∷ [] ∷ codes "1│2" ∷ codes "───" ∷ [])
a_row_joins_no_border_before_an_empty_line = refl

-- whatever came there, the law has only the border as it was
pub the_border_is_as_it_was : {T : Type 0} (b c : Border T) (below more : List (Line T)) →
    border c ∷ text [] ∷ below ≡ before_border (border b ∷ text [] ∷ []) ++ more → c ≡ b
the_border_is_as_it_was b c below more is = cc

-- ---- scripts

-- a text is no call without text
pub a_text_names_no_empty_text : (T : Type 0) (width : ℕ) → NamesCall {T = T} width (codes "text a") (add_inline_text []) → ⊥
unfolding chars
a_text_names_no_empty_text T width (argument, are, (t, is, none)) =
    let writes : argument ≡ codes "a" = cc in
    let reads : Some (codes "a") ≡ Some t = text_written (codes "a") t (subst (λ bs. IsText bs t) writes is) in
    let same : t ≡ codes "a" = cc in
    let no : [] ≡ codes "a" = none ∙ ap chars same in
    cc

-- a text comes once, and so does a quote
pub a_quote_comes_once :
    rendered example_columns (codes "new 8 plain\ntext a\nsub 6\ntext b\nappend >  | > \n") ≡ Ok (codes "a\n> b\n")
unfolding chars digits encode is_utf8
a_quote_comes_once = refl

use Rattle.tbr_rows.proofs.Common.{◌≡◌, ℕ, ◌+◌, Bool, List, [], ◌∷◌, ◌++◌, map, drop, refl, ap, rules, drop-drop, map_push, map-map, Item, glyph, each_append, RenderLine, Element, items_of}
use Rattle.tbr_rows.proofs.Common.{SameItems, IsMerged, all_zip_append, Column, row_text, text_of_lines, cell_text, dropped, line_text, line_texts, HaveTexts}
use Rattle.std.proofs.Common.{add-one}
use Rattle.std.proofs.lemmas.List.{map-id}
use Rattle.tbr_rows.proofs.texts.lines_of.Goals as goal

text_later : {A : Type 0} (a : A) (i : ℕ) (c : Column A) (ls : List (RenderLine A)) → text_of_lines a (dropped i c) ls ≡ text_of_lines a c ls
text_later a i c [] = refl
text_later a i c (l ∷ ls) = refl

-- the first line of what is left
line_later : {A : Type 0} (separator : Item A) (a : A) (i : ℕ) (cs : List (Column A)) →
    line_text separator a (map (dropped i) cs) 0 ≡ line_text separator a cs i
line_later separator a i cs =
    rw (map-map (cell_text a 0) (dropped i) cs) (ap (row_text separator) (λ j. map (λ c. text_later a i c (drop i c.cell.lines) j) cs))

one_more_line : {A : Type 0} (eq : A → A → Bool) (separator : Item A) (a : A) (cs now : List (Column A)) (i : ℕ) (lines : List (List (Element A)))
    (line : List (Element A)) → HaveTexts eq lines (line_texts separator a cs i) → now ≡ map (dropped i) cs →
    SameItems eq (items_of line) (line_text separator a now 0) → HaveTexts eq (lines ++ line ∷ []) (line_texts separator a cs (i + 1))
one_more_line {A} eq separator a cs now i lines line h e k = search (rules, add-one, map_push, all_zip_append, line_later)

pub loop-init : goal.loop-init
loop-init g c = search (rules, map-id, c.in_ok-lines.ensures.items)

pub loop-preserved : goal.loop-preserved
loop-preserved g c =
    let inv = c.loop.invariant in
    let tag = c.args.tag.now in
    let cells = c.args.columns.now.items in
    rw c.in_ok-push.ensures.items (record {
      items = one_more_line g.T.PartialEq.eq (glyph c.args.separator tag) tag cells c.loop.columns.items c.loop.counter c.loop.lines.items
          c.in_ok-line_of.field-0 inv.items inv.rest c.in_ok-line_of.ensures.items;
      merged = each_append (IsMerged g.T.PartialEq.eq) c.loop.lines.items (c.in_ok-line_of.field-0 ∷ []) inv.merged (c.in_ok-line_of.ensures.merged, tt);
      rest = rw (c.in_ok-line_of.ensures.rest, inv.rest) (simp (map-map, drop-drop));
    })

-- Lines after prefixes.
use Rattle.std.specs.Prelude.{◌≡◌, ℕ, Bool, ⊤, Option, None, Some, List, [], ◌∷◌, ◌++◌, map}
use Rattle.std.specs.List.{AllZip, AllByRecursion as Each}
use Rattle.tbr_model.specs.Run.{Item}
use Rattle.tbr_border.specs.Border.{shown}
use Rattle.tbr_border.specs.RenderLine.{IsMergedText}
use Rattle.tbr_border.specs.declared.RenderLine.{RenderLine}
use Rattle.tbr_tagged.specs.Elements.{items_of, text_items, IsMerged}
use Rattle.tbr_kept_lines.specs.Line.{Line, text, border, line_seen, text_lines, SameSeen}
use Rattle.tbr_kept_lines.specs.declared.prefixed_lines.Prefixes.{Prefixes}

-- a line as text: a border's cells are under the tag, and its holes keep theirs
abbrev pub as_text : {T : Type 0} → T → Line T → List (Item T)
as_text tag (text is) = is
as_text tag (border b) = shown tag b

-- texts after prefixes: the first one after its own, and each other one after that of the others
abbrev pub after_prefixes : {T : Type 0} → List (Item T) → List (Item T) → List (List (Item T)) → List (List (Item T))
after_prefixes first others [] = []
after_prefixes first others (is ∷ texts) = (first ++ is) ∷ map (λ js. others ++ js) texts

-- lines as texts after prefixes under a tag
abbrev pub prefixed_lines : {T : Type 0} → T → List ℕ → List ℕ → List (Line T) → List (Line T)
prefixed_lines tag first others lines =
    map text (after_prefixes (text_items first tag) (text_items others tag) (map (as_text tag) lines))

-- texts after prefixes, if there are any
abbrev pub texts_after : {T : Type 0} → Option (Prefixes T) → List (List (Item T)) → List (List (Item T))
texts_after None texts = texts
texts_after (Some p) texts = after_prefixes (items_of p.first) (items_of p.others) texts

-- The pieces of prefixes are the longest stretches under equal tags.
abbrev pub AreMerged : {T : Type 0} → (T → T → Bool) → Option (Prefixes T) → Type 0
AreMerged eq None = ⊤
AreMerged eq (Some p) = IsMerged eq p.first × IsMerged eq p.others

-- ---- lines after others, up to equal tags

-- lines come after others, under equal tags
abbrev pub Appends : {T : Type 0} → (T → T → Bool) → List (Line T) → List (Line T) → List (Line T) → Type 0
Appends {T} eq old lines new = (more : List (Line T)) × (new ≡ old ++ more) × AllZip (SameSeen eq) more lines

-- Texts come after lines, each by itself, under equal tags. Their pieces are the longest stretches.
abbrev pub Pushes : {T : Type 0} →
    (T → T → Bool) → List (RenderLine T) → List (List (Item T)) → List (RenderLine T) → Type 0
Pushes {T} eq old texts new =
    (more : List (RenderLine T)) × (new ≡ old ++ more) × AllZip (SameSeen eq) (map line_seen more) (text_lines texts)
    × Each (IsMergedText eq) more

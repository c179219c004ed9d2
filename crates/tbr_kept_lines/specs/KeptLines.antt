-- What the fields of kept lines mean.
use Rattle.std.specs.Prelude.{◌≡◌, Bool, true, List, ◌++◌, map, filter, flat_map, length}
use Rattle.std.specs.List.{AllByRecursion as Each, list_any}
use Rattle.tbr_border.specs.RenderLine.{IsMergedText}
use Rattle.tbr_wrap.specs.Runs.{is_some_list}
use Rattle.tbr_kept_lines.specs.Line.{Line, line_seen, line_has_content, text_lines}
use Rattle.tbr_kept_lines.specs.declared.kept_lines.Part.{Part}
use Rattle.tbr_kept_lines.specs.declared.kept_lines.KeptLines.TheInside.{Inside}

-- lines, and after them those of a block
abbrev pub part_seen : {T : Type 0} → Part T → List (Line T)
part_seen p = map line_seen p.before.items ++ text_lines p.ended

abbrev pub parts_seen : {T : Type 0} → List (Part T) → List (Line T)
parts_seen ps = flat_map part_seen ps

abbrev pub kept_seen : {T : Type 0} → Inside T → List (Line T)
kept_seen k = parts_seen k.above.items ++ map line_seen k.last.items

-- A part has pieces that are the longest stretches under equal tags, and some lines of a block.
pub record HoldsPart {T : Type 0} (eq : T → T → Bool) (p : Part T) : Type 0 where
  pub merged : Each (IsMergedText eq) p.before.items
  pub some : is_some_list p.ended ≡ true

-- It is known whether a line of the parts has content, and how many of the last lines have it.
pub record HoldsKept {T : Type 0} (eq : T → T → Bool) (k : Inside T) : Type 0 where
  pub parts : Each (HoldsPart eq) k.above.items
  pub content_above : k.content_above ≡ list_any line_has_content (parts_seen k.above.items)
  pub merged : Each (IsMergedText eq) k.last.items
  pub content : k.with_content ≡ length (filter line_has_content (map line_seen k.last.items))

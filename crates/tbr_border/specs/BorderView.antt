-- What the fields of a border mean.
use Rattle.std.specs.Prelude.{List, map, length}
use Rattle.tbr_border.specs.declared.border.Span.{Span}
use Rattle.tbr_border.specs.declared.border.Shape.{Shape}
use Rattle.tbr_border.specs.declared.border.BorderHoriz.TheInside.{Inside}
use Rattle.tbr_tagged.specs.View.{element_of}
use Rattle.tbr_border.specs.Cell.{cells_of}
use Rattle.tbr_border.specs.Border.{Hole, Border, AreInOrder}

abbrev pub hole_of : {A : Type 0} → Span A → Hole A
hole_of span = record { place = span.place; width = span.width; element = element_of span.element }

abbrev pub holes_of : {A : Type 0} → List (Span A) → List (Hole A)
holes_of stored = map hole_of stored

abbrev pub shown_by : {A : Type 0} → Shape A → Border A
shown_by shape = record { cells = cells_of shape.segments.items; tag = shape.tag; holes = holes_of shape.holes.items }

abbrev pub border_of : {A : Type 0} → Inside A → Border A
border_of b = shown_by b.shape.value

abbrev pub SpansFit : {A : Type 0} → Inside A → Type 0
SpansFit b = AreInOrder 0 (border_of b).holes (length b.shape.value.segments.items)

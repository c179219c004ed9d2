-- What questions to a renderer are answered with.
use Rattle.std.specs.Prelude.{◌≡◌, ℕ, Result, Ok, Err, MatchResult, List, length, slice_get, encode_utf8_all}
use Rattle.std.specs.Option.{ok_or}
use Rattle.tbr_decor.specs.Prefix.{Prefix}
use Rattle.tbr_decor.specs.declared.annotation.RichAnnotation.{RichAnnotation}
use Rattle.column_widths.specs.declared.room.Room.{Room}
use Rattle.tbr_c_tables.specs.Given.{room_given}
use Rattle.tbr_c_lines.specs.Status.{code_of, fault_of}
use Rattle.tbr_c_lines.specs.Lines.{text_of}
use Rattle.tbr_c_lines.specs.Formats.{lines_to_show, current_as}
use Rattle.tbr_c_lines.specs.declared.formats.Format.{Format}
use Rattle.tbr_c_lines.specs.declared.lines.Rest.{Rest}
use Rattle.tbr_c_lines.specs.Line.{Line, placed, marked, annotated, target_of, kind_of}
use Rattle.tbr_c_lines.specs.declared.fault.Fault.{Fault}
use Rattle.tbr_c_lines.specs.declared.fault.Fault.TheVariants as fault
use Rattle.tbr_c_lines.specs.declared.line.PiecePlace.{PiecePlace}
use Rattle.tbr_c_lines.specs.declared.line.AnnotationKind.{AnnotationKind}
use Rattle.tbr_c.specs.declared.page.Facts.{Facts}
use Rattle.tbr_c.specs.declared.state.State.{State}
use Rattle.tbr_c.specs.declared.state.State.TheVariants.{Filled, Table, Finished, Refused}
use Rattle.tbr_c.specs.declared.page.Page.{Page}
use Rattle.tbr_c.specs.declared.table.OpenTable.{OpenTable}
use Rattle.tbr_c.specs.declared.extent.Extent.{Extent}
use Rattle.tbr_c.specs.State.{lines_in}
use Rattle.tbr_c.specs.Page.{page_facts, page_prefix, page_width_left}
use Rattle.tbr_c.specs.Tables.{levels_with}
use Rattle.tbr_c.specs.Arguments.{and_then, extent_of}

-- ---- how C is answered

-- A value is put where C wants it, or the status of why there is none is answered, and nothing changes there.
abbrev pub Puts : {X : Type 0} → Result X Fault → X → X → ℕ → Type 0
Puts answer before after status =
    MatchResult answer (λ x. (after ≡ x) × (status ≡ 0)) (λ f. (after ≡ before) × (status ≡ code_of f))

-- ---- while calls go in

-- what is asked while calls go in, of what is filled or of the table that is open
abbrev pub asked_of : {X : Type 0} → (Page → Result X Fault) → (OpenTable → Result X Fault) → State → Result X Fault
asked_of page table (Filled p) = page p
asked_of page table (Table t) = table t
asked_of page table (Finished lines) = Err fault.Finished
asked_of page table (Refused e) = Err (fault_of e)

-- what it answers of itself and of its innermost level
abbrev pub facts_of : State → Result Facts Fault
facts_of state = asked_of (λ p. Ok (page_facts p)) (λ t. Err fault.InTable) state

-- one of these facts
abbrev pub fact_of : {X : Type 0} → (Facts → X) → State → Result X Fault
fact_of fact state = and_then (facts_of state) (λ facts. Ok (fact facts))

-- The columns that are left after a prefix, but at least so many.
abbrev pub width_left : ℕ → ℕ → State → Result ℕ Fault
width_left prefix least state = asked_of (page_width_left prefix least) (λ t. Err fault.InTable) state

-- how many levels are open, and in a table how many parts of it too
abbrev pub levels_of : State → Result ℕ Fault
levels_of state = asked_of (λ p. let facts = page_facts p in Ok facts.open_levels) (λ t. Ok (levels_with t)) state

-- the columns of the longest word and of the widest line that came in the innermost part of a table
abbrev pub room_in : State → Result Room Fault
room_in state = asked_of (λ p. Err fault.NoTable) (λ t. room_given t.given) state

abbrev pub extent_in : State → Result Extent Fault
extent_in state = and_then (room_in state) (λ room. Ok (extent_of room))

-- the bytes of a prefix of the decorator
abbrev pub prefix_of : Prefix → State → Result (List ℕ) Fault
prefix_of asked state = asked_of (λ p. Ok (page_prefix asked p)) (λ t. Ok (page_prefix asked t.page)) state

-- there is such a text, and it has so many bytes
abbrev pub Needs : Result (List ℕ) Fault → ℕ → Type 0
Needs answer n = MatchResult answer (λ text. length text ≡ n) (λ _. ⊥)

-- with what a kept refusal is told
abbrev pub refusal_of : State → Result (Unit {0}) Fault
refusal_of (Refused e) = Err (fault_of e)
refusal_of other = Ok tt

-- ---- of what is finished

-- the text of all lines that weren't taken, each with a newline
abbrev pub rest_of : State → Result (List ℕ) Fault
rest_of state = and_then (lines_in state) (λ lines. Ok (encode_utf8_all (text_of lines.rest)))

-- the lines that weren't taken, where there are such and not only their text
abbrev pub rest_to_show : State → Result Rest Fault
rest_to_show state = and_then (lines_in state) (λ lines. lines_to_show lines.rest)

-- the line that was taken last in a format
abbrev pub line_as : Format → State → Result (List ℕ) Fault
line_as format state = and_then (lines_in state) (current_as format)

-- ---- of the line that was taken last

abbrev pub line_taken : State → Result Line Fault
line_taken state = and_then (lines_in state) (λ lines. ok_or lines.current fault.NoLine)

-- its text
abbrev pub text_taken : State → Result (List ℕ) Fault
text_taken state = and_then (line_taken state) (λ line. Ok line.text)

-- its piece at a place, and the name of the marker at one
abbrev pub piece_taken : ℕ → State → Result PiecePlace Fault
piece_taken place state = and_then (line_taken state) (λ line. placed (slice_get line.pieces place))

abbrev pub name_taken : ℕ → State → Result (List ℕ) Fault
name_taken place state =
    and_then (line_taken state) (λ line. ok_or (marked (slice_get line.pieces place)) fault.NoPiece)

-- the annotation at a place of its piece at a place, by numbers and by its target
abbrev pub annotation_taken : ℕ → ℕ → State → Result RichAnnotation Fault
annotation_taken piece place state =
    and_then (line_taken state)
    (λ line. ok_or (slice_get (annotated (slice_get line.pieces piece)) place) fault.NoPiece)

abbrev pub kind_taken : ℕ → ℕ → State → Result AnnotationKind Fault
kind_taken piece place state = and_then (annotation_taken piece place state) (λ annotation. Ok (kind_of annotation))

abbrev pub target_taken : ℕ → ℕ → State → Result (List ℕ) Fault
target_taken piece place state =
    and_then (annotation_taken piece place state) (λ annotation. ok_or (target_of annotation) fault.NoPiece)

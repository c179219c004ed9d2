-- How far a renderer is that C holds.
use Rattle.std.specs.Prelude.{◌≡◌, ℕ, Bool, Option, None, Some, unwrap_or, Result, Ok, Err, MatchResult, List, [], ◌∷◌, chars, encode_utf8_all}
use Rattle.std.specs.Option.{option_map}
use Rattle.std.specs.Result.{result_map_both}
use Rattle.tbr_tagged.specs.declared.Error.{Error}
use Rattle.tbr_tagged.specs.declared.Error.TheVariants as block
use Rattle.tbr_commands.specs.Command.{Command}
use Rattle.tbr_c_tables.specs.Given.{GivenTable, begun, call_given, command_given}
use Rattle.tbr_c_tables.specs.declared.open_part.OpenPart.{OpenPart}
use Rattle.tbr_c_tables.specs.declared.table_call.TableCall.{TableCall}
use Rattle.tbr_c_lines.specs.Status.{fault_of, fault_of_command}
use Rattle.tbr_c_lines.specs.Line.{Line, size_of}
use Rattle.tbr_c_lines.specs.Lines.{Lines, NoneLeft, TakesFirst, text_of}
use Rattle.tbr_c_lines.specs.declared.line.LineSize.{LineSize}
use Rattle.tbr_c_lines.specs.declared.lines.Rest.{Rest}
use Rattle.tbr_c_lines.specs.declared.fault.Fault.{Fault}
use Rattle.tbr_c_lines.specs.declared.fault.Fault.TheVariants as fault
use Rattle.tbr_c.specs.declared.page.Page.{Page}
use Rattle.tbr_c.specs.declared.page.Facts.{Facts}
use Rattle.tbr_c.specs.declared.state.State.{State}
use Rattle.tbr_c.specs.declared.state.State.TheVariants.{Filled, Table, Finished, Refused}
use Rattle.tbr_c.specs.Page.{PageGoesOn, IsPageClosed, page_after, page_drawn, page_end, page_facts, page_texts}
use Rattle.tbr_c.specs.Tables.{misplaced, fault_of_drawing}

abbrev pub CanGoOn : State → Type 0
CanGoOn (Filled p) = PageGoesOn p
CanGoOn (Table t) = PageGoesOn t.page
CanGoOn other = Unit {0}

-- Calls go in, or a table is open.
abbrev pub IsFilled : State → Type 0
IsFilled (Filled p) = Unit {0}
IsFilled other = ⊥

abbrev pub IsTable : State → Type 0
IsTable (Table t) = Unit {0}
IsTable other = ⊥

-- Calls go in, no level is open, and no cell waits.
abbrev pub MayFinish : State → Type 0
MayFinish (Filled p) = IsPageClosed p
MayFinish other = ⊥

-- what is kept of a refusal, if it is one that is kept
abbrev pub kept : Fault → Option Error
kept fault.OutOfMemory = Some block.OutOfMemory
kept fault.TooNarrow = Some block.TooNarrow
kept other = None

-- What a renderer is after a refusal. One that isn't kept leaves it as it was.
abbrev pub after_refusal : Fault → State → State
after_refusal f state = unwrap_or (option_map Refused (kept f)) state

-- What is finished, or keeps a refusal, answers that.
abbrev pub HasEnded : {X : Type 0} → State → Result X Fault → Type 0
HasEnded (Finished lines) result = result ≡ Err fault.Finished
HasEnded (Refused e) result = result ≡ Err (fault_of e)
HasEnded other result = Unit {0}

-- With what arguments are refused that are no command. What is finished, or keeps a refusal, answers that.
abbrev pub refused_as : State → Fault → Fault
refused_as (Finished lines) why = fault.Finished
refused_as (Refused e) why = fault_of e
refused_as other why = why

-- ---- what calls make of it

-- A command, as in a script, whose lines don't count here. In a table it is recorded.
abbrev pub command_made : Command → State → Result State Fault
command_made command (Filled p) = result_map_both Filled fault_of_command (page_after command p)
command_made command (Table t) =
    result_map_both (λ given. Table (record t { given = given })) (λ f. f) (command_given command t.given)
command_made command (Finished lines) = Err fault.Finished
command_made command (Refused e) = Err (fault_of e)

-- a table begins, or why it can't
abbrev pub begun_in : Page → Option Fault → Result State Fault
begun_in p None = Ok (Table (record { page = p; given = begun (page_texts p) }))
begun_in p (Some f) = Err f

-- a table is drawn by what was recorded of it
abbrev pub drawn : Page → GivenTable → Result State Fault
drawn p given = result_map_both Filled fault_of_drawing (page_drawn given.script p)

abbrev pub drawn_in : State → Result State Fault
drawn_in (Table t) = drawn t.page t.given
drawn_in other = Err fault.NoTable

-- A table after a call: it is drawn where no part of it is open any longer.
abbrev pub after_parts : List OpenPart → Page → GivenTable → Result State Fault
after_parts [] p given = drawn p given
after_parts (part ∷ parts) p given = Ok (Table (record { page = p; given = given }))

abbrev pub after_given : Page → Result GivenTable Fault → Result State Fault
after_given p (Ok given) = after_parts given.parts p given
after_given p (Err f) = Err f

-- a call of a table
abbrev pub call_made : TableCall → State → Result State Fault
call_made asked (Filled p) = begun_in p (misplaced (page_facts p) asked)
call_made asked (Table t) = after_given t.page (call_given asked t.given)
call_made asked (Finished lines) = Err fault.Finished
call_made asked (Refused e) = Err (fault_of e)

-- What its end gives, as that of a script, whose lines don't count here.
abbrev pub end_of : State → Result (List ℕ) Fault
end_of (Filled p) = result_map_both (λ text. text) fault_of_command (page_end p)
end_of (Table t) = Err fault.InTable
end_of (Finished lines) = Err fault.Finished
end_of (Refused e) = Err (fault_of e)

-- Its lines are those of the end, and none was taken.
abbrev pub EndsIn : State → State → Type 0
EndsIn before (Finished lines) =
    (end_of before ≡ Ok (encode_utf8_all (text_of lines.rest))) × (lines.current ≡ None)
EndsIn before other = ⊥

-- ---- its lines

-- Its lines where it is finished. What is filled has none yet, and what keeps a refusal has that.
abbrev pub lines_in : State → Result Lines Fault
lines_in (Finished lines) = Ok lines
lines_in (Refused e) = Err (fault_of e)
lines_in other = Err fault.NotFinished

-- With what the next line is refused: as its lines are, or where none is left.
abbrev pub HasNoNext : State → Fault → Type 0
HasNoNext state f =
    MatchResult (lines_in state) (λ lines. (f ≡ fault.NoLine) × NoneLeft lines.rest) (λ why. f ≡ why)

-- The first of the lines that weren't taken is the one that was taken last now, and has this size.
abbrev pub TakesLine : State → State → LineSize → Type 0
TakesLine state next size =
    MatchResult (lines_in state) (λ lines. (line : Line) × (rest : Rest) × TakesFirst lines.rest line rest
    × (next ≡ Finished (record { rest = rest; current = Some line })) × (size ≡ size_of line)) (λ _. ⊥)

-- Its lines have these bytes, each with a newline, and none was taken yet.
abbrev pub HasText : State → List ℕ → Type 0
HasText (Finished lines) bytes = (chars bytes ≡ text_of lines.rest) × (lines.current ≡ None)
HasText other bytes = ⊥

-- What is answered to C.
use Rattle.std.specs.Prelude.{◌≡◌, ◌≢◌, ℕ, Bool, Option, Some, Result, Ok, Err, OnOk, IfOk, IfErr, MatchResult, List, length}
use Rattle.tbr_commands.specs.Command.{Command}
use Rattle.tbr_commands.specs.declared.opening.Opening.{Opening}
use Rattle.tbr_c_lines.specs.Copied.{Copies, CopiesMade}
use Rattle.tbr_c_lines.specs.Formats.{CopiesShown}
use Rattle.tbr_c_lines.specs.declared.formats.Format.{Format}
use Rattle.tbr_c_lines.specs.Status.{status_of}
use Rattle.tbr_c_lines.specs.declared.fault.Fault.{Fault}
use Rattle.tbr_c_lines.specs.declared.fault.Fault.TheVariants as fault
use Rattle.tbr_c_lines.specs.declared.line.LineSize.{LineSize}
use Rattle.tbr_c_tables.specs.declared.table_call.TableCall.{TableCall}
use Rattle.tbr_c.specs.declared.state.State.{State}
use Rattle.tbr_c.specs.declared.state.State.TheVariants.{Filled}
use Rattle.tbr_c.specs.Page.{new_page}
use Rattle.tbr_c.specs.State.{HasEnded, after_refusal, refused_as, command_made, call_made, end_of, EndsIn, HasText, TakesLine, HasNoNext}
use Rattle.tbr_c.specs.Questions.{Puts, rest_of, rest_to_show, line_as}

-- what arguments make of a renderer that ask for a call, or for none
abbrev pub made_of : {C : Type 0} → (C → State → Result State Fault) → State → Result C Fault → Result State Fault
made_of make before (Ok call) = make call before
made_of make before (Err why) = Err (refused_as before why)

-- What is answered to arguments that ask for a call which makes this of a renderer, and what that is then. It was made,
-- or is refused as that is.
pub record IsAnswer {C : Type 0} (make : C → State → Result State Fault) (before : State) (asked : Result C Fault)
    (done : Result (Unit {0}) Fault) (after : State) : Type 0 where
  pub ended : HasEnded before done
  pub does : OnOk done (made_of make before asked ≡ Ok after)
  pub refused : IfErr done (λ f. f ≢ fault.OutOfMemory → made_of make before asked ≡ Err f)
  pub left : IfErr done (λ f. after ≡ after_refusal f before)

-- C is given this back, and the status of an answer.
abbrev pub GivesMade :
    {C : Type 0} → (C → State → Result State Fault) → State → Result C Fault → Option State → ℕ → Type 0
GivesMade make before asked back status =
    (done : Result (Unit {0}) Fault) × (after : State) × IsAnswer make before asked done after
    × (back ≡ Some after) × (status ≡ status_of done)

-- so it is where arguments ask for a command of a script, or for a call of a table
abbrev pub Gives : State → Result Command Fault → Option State → ℕ → Type 0
Gives before asked back status = GivesMade command_made before asked back status

abbrev pub GivesTable : State → Result TableCall Fault → Option State → ℕ → Type 0
GivesTable before asked back status = GivesMade call_made before asked back status

-- What is refused at the end, and what the renderer holds then.
pub record IsEnd {X : Type 0} (before : State) (done : Result X Fault) (after : State) : Type 0 where
  pub ended : HasEnded before done
  pub refused : IfErr done (λ f. f ≢ fault.OutOfMemory → end_of before ≡ Err f)
  pub left : IfErr done (λ f. after ≡ after_refusal f before)

-- C is given back lines, and the status of the end.
abbrev pub GivesEnd : State → Option State → ℕ → Type 0
GivesEnd before back status =
    (done : Result (Unit {0}) Fault) × (after : State) × OnOk done (EndsIn before after) × IsEnd before done after
    × (back ≡ Some after) × (status ≡ status_of done)

-- The text of the end has this many bytes, and is what the renderer holds.
abbrev pub HasLength : State → State → ℕ → Type 0
HasLength before after count =
    (text : List ℕ) × (end_of before ≡ Ok text) × HasText after text × (count ≡ length text)

-- The same where its text is all that can be taken, whose length is answered.
abbrev pub GivesText : State → Option State → ℕ → ℕ → ℕ → Type 0
GivesText before back old new status =
    (done : Result ℕ Fault) × (after : State) × IfOk done (HasLength before after) × IsEnd before done after
    × (back ≡ Some after) × Puts done old new status

-- A new renderer, which is raw or not, or why there is none.
abbrev pub IsMade : Result Opening Fault → (raw : Bool) → Result State Fault → Type 0
IsMade asked raw made =
    MatchResult made (λ state. (opening : Opening) × (asked ≡ Ok opening) × (state ≡ Filled (new_page opening raw)))
    (λ f. f ≢ fault.OutOfMemory → asked ≡ Err f)

-- C is given a new renderer where one is made, and the status of that.
abbrev pub GivesNew : Result Opening Fault → (raw : Bool) → Option State → Option State → ℕ → Type 0
GivesNew asked raw before back status =
    (made : Result State Fault) × IsMade asked raw made × MatchResult made (λ state. back ≡ Some state) (λ _. back ≡ before)
    × (status ≡ status_of made)

-- The text of all lines that weren't taken is copied, or it is refused, and C is given back what the renderer holds then.
-- Memory is refused only where there is such a text.
abbrev pub GivesRest : State → Option State → List ℕ → List ℕ → ℕ → ℕ → ℕ → Type 0
GivesRest state back before after old needed status =
    (done : Result (Unit {0}) Fault) × CopiesMade (rest_of state) before after old needed (status_of done)
    × IfErr (rest_of state) (λ f. done ≡ Err f)
    × MatchResult done (λ _. back ≡ Some state) (λ f. back ≡ Some (after_refusal f state)) × (status ≡ status_of done)

-- What C is given back after a copy that may have been refused.
abbrev pub IsLeft : State → Option State → Result (Unit {0}) Fault → Type 0
IsLeft state back done = MatchResult done (λ _. back ≡ Some state) (λ f. back ≡ Some (after_refusal f state))

-- The lines that weren't taken are copied in the format of a number, or it is refused. Memory is refused only where there
-- are such lines. A number that names none is refused, and nothing else happens.
abbrev pub GivesShown :
    Result Format Fault → State → Option State → List ℕ → List ℕ → ℕ → ℕ → ℕ → Type 0
GivesShown (Ok format) state back before after old needed status =
    (done : Result (Unit {0}) Fault)
    × CopiesShown format (rest_to_show state) before after old needed (status_of done)
    × IfErr (rest_to_show state) (λ f. done ≡ Err f) × IsLeft state back done × (status ≡ status_of done)
GivesShown (Err f) state back before after old needed status =
    Copies (Err f) before after old needed status × (back ≡ Some state)

-- the same of the line that was taken last
abbrev pub GivesLine :
    Result Format Fault → State → Option State → List ℕ → List ℕ → ℕ → ℕ → ℕ → Type 0
GivesLine (Ok format) state back before after old needed status =
    (done : Result (Unit {0}) Fault)
    × CopiesMade (line_as format state) before after old needed (status_of done)
    × IfErr (line_as format state) (λ f. done ≡ Err f) × IsLeft state back done × (status ≡ status_of done)
GivesLine (Err f) state back before after old needed status =
    Copies (Err f) before after old needed status × (back ≡ Some state)

-- The first line that wasn't taken is taken, or it is refused why there is none.
pub record IsNext (before : State) (done : Result LineSize Fault) (after : State) : Type 0 where
  pub taken : IfOk done (TakesLine before after)
  pub none : IfErr done (λ f. f ≢ fault.OutOfMemory → HasNoNext before f)
  pub left : IfErr done (λ f. after ≡ after_refusal f before)

-- C is given its size, and back what the renderer holds then.
abbrev pub GivesNext : State → Option State → LineSize → LineSize → ℕ → Type 0
GivesNext before back old new status =
    (done : Result LineSize Fault) × (after : State) × IsNext before done after × (back ≡ Some after)
    × Puts done old new status

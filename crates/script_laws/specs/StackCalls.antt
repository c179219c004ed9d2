-- The commands of a script as calls on a stack.
use Rattle.std.specs.Prelude.{◌≡◌, ℕ, ◌+◌, Option, Ok, List, [], ◌∷◌, chars, flat_map}
use Rattle.tbr_decor.specs.Decoration.{Decoration}
use Rattle.tbr_stack.specs.StackCalls.{StackCall, change_top, push, pop, start_link, end_link as ends_link, targets_of}
use Rattle.tbr_commands.specs.Command.{Command, link, end_link, sub, append, cell, end_cell}
use Rattle.tbr_commands.specs.Syntax.{IsCommand}
use Rattle.tbr_program.specs.Progress.{Progress}
use Rattle.tbr_program.specs.Commands.{after_line}

-- ---- commands

-- what a command does to the stack
abbrev pub calls_of : Command → List StackCall
calls_of (link target) = start_link (chars target) ∷ []
calls_of end_link = ends_link ∷ []
calls_of (sub width) = push ∷ []
calls_of (append first other) = pop ∷ change_top ∷ []
calls_of (cell width span align) = push ∷ []
calls_of end_cell = pop ∷ []
calls_of other = change_top ∷ []

-- and commands one after another
abbrev pub stack_calls : List Command → List StackCall
stack_calls commands = flat_map calls_of commands

-- the targets of the links that commands begin, in their order
abbrev pub link_targets : List Command → List (List ℕ)
link_targets commands = targets_of (stack_calls commands)

-- ---- lines

-- Lines ask for these commands, each for one. An empty line asks for none.
abbrev pub AskFor : List (List ℕ) → List Command → Type 0
AskFor [] commands = commands ≡ []
AskFor ([] ∷ lines) commands = AskFor lines commands
AskFor ((b ∷ bs) ∷ lines) commands =
    (command : Command) × (others : List Command) × IsCommand (b ∷ bs) command × (commands ≡ command ∷ others)
    × AskFor lines others

-- and those of a script do after the first, which isn't empty
abbrev pub AskAfterFirst : List (List ℕ) → List Command → Type 0
AskAfterFirst [] commands = ⊥
AskAfterFirst ([] ∷ lines) commands = AskAfterFirst lines commands
AskAfterFirst ((b ∷ bs) ∷ lines) commands = AskFor lines commands

-- Lines lead from here to there, one after another, the first of them with this number.
abbrev pub LinesDo : {D M : Type 0} → (ℕ → Option ℕ) → Decoration D M →
    Progress D M (List M) → ℕ → List (List ℕ) → Progress D M (List M) → Type 0
LinesDo columns decoration p number [] q = q ≡ p
LinesDo {D} {M} columns decoration p number (line ∷ lines) q =
    (next : Progress D M (List M)) × (after_line columns decoration number line p ≡ Ok next)
    × LinesDo columns decoration next (number + 1) lines q

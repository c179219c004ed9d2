-- How a terminal reads a text: which characters it shows.
use Rattle.std.specs.Prelude.{ℕ, ◌==◌, if◌then◌else◌, List, [], ◌∷◌}
use Rattle.std.specs.Int.{is_in_range}
use Rattle.tbr_show.specs.Ansi.{escape_character}

-- Where it is in a text: among characters, after an escape, in a control sequence, in a command, or after an escape in
-- a command.
pub data Place : Type 0 where
  among : Place
  escaped : Place
  sequence : Place
  command : Place
  leaving : Place

-- the brackets that begin a control sequence and a command
abbrev pub begins_sequence : ℕ
begins_sequence = 0x5B

abbrev pub begins_command : ℕ
begins_command = 0x5D

-- The characters that it shows, from such a place on. A control sequence ends with a character from `@` to `~`, a
-- command with an escape and one more character.
abbrev pub seen : Place → List ℕ → List ℕ
seen place [] = []
seen among (c ∷ cs) = if c == escape_character then seen escaped cs else c ∷ seen among cs
seen escaped (c ∷ cs) =
    if c == begins_sequence then seen sequence cs else (if c == begins_command then seen command cs else seen among cs)
seen sequence (c ∷ cs) = if is_in_range 0x40 0x7E c then seen among cs else seen sequence cs
seen command (c ∷ cs) = if c == escape_character then seen leaving cs else seen command cs
seen leaving (c ∷ cs) = seen among cs

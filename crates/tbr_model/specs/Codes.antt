-- Characters that the definitions name.
use Rattle.std.specs.Prelude.{ℕ}

abbrev pub tab_character : ℕ
tab_character = 9

abbrev pub newline_character : ℕ
newline_character = 10

abbrev pub space_character : ℕ
space_character = 32

abbrev pub slash : ℕ
slash = 47

-- the last character of printable ASCII, whose first is the space
abbrev pub last_printable : ℕ
last_printable = 126

abbrev pub no_break_space : ℕ
no_break_space = 0x00A0

abbrev pub zero_width_space : ℕ
zero_width_space = 0x200B

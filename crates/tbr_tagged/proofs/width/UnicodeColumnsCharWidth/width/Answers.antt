use Rattle.tbr_tagged.proofs.Common.{sym, ◌∙◌}
use Rattle.tbr_tagged.proofs.TextColumns.{ascii_in_one}
use Rattle.tbr_tagged.proofs.WideBlocks.{wide_in_two}
use Rattle.tbr_tagged.proofs.width.UnicodeColumnsCharWidth.width.Goals as goal

pub returns-then-is_printable_ascii : goal.returns-then-is_printable_ascii
returns-then-is_printable_ascii c = sym (ascii_in_one c.args.c (sym c.is_printable_ascii.ensures ∙ c.if-is_printable_ascii.true))

pub returns-then-is_in_wide_block : goal.returns-then-is_in_wide_block
returns-then-is_in_wide_block c = sym (wide_in_two c.args.c (sym c.is_in_wide_block.ensures ∙ c.if-is_in_wide_block.true))

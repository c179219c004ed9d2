use Rattle.std.proofs.Common.{◌≡◌, fold, length}
use Rattle.std.specs.Option.{option_map}
use Rattle.tbr_commands.specs.Options.{with_setting}
use Rattle.tbr_commands.specs.Read.{settings_read, options_read}
use Rattle.tbr_commands.proofs.options.parse_options.Given as goal

-- the options so far, and the settings of the words that are left
abbrev pub invariant-loop-word : goal.invariant-loop-word
invariant-loop-word l = option_map (λ all. fold with_setting l.options all) (settings_read l.words) ≡ options_read l.fn.words

abbrev pub decreases-loop-word : goal.decreases-loop-word
decreases-loop-word l = length l.words

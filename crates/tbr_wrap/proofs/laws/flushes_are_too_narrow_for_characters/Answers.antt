use Rattle.tbr_wrap.proofs.Common.{rules}
use Rattle.tbr_wrap.proofs.runs.BlockLaws.{flush_words_fit, flush_visible_fit, flush_never, flush_wide, flush_wide_word, flush_in_two}
use Rattle.tbr_wrap.proofs.laws.flushes_are_too_narrow_for_characters.Goals as goal

pub returns : goal.returns
returns g c = search (rules, flush_words_fit, flush_visible_fit, flush_never, flush_wide, flush_wide_word, flush_in_two)

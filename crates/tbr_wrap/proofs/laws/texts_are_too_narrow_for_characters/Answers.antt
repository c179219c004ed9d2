use Rattle.tbr_wrap.proofs.Common.{rules}
use Rattle.tbr_wrap.proofs.runs.BlockLaws.{text_words_fit, text_never, text_wide, text_wide_word, text_in_two}
use Rattle.tbr_wrap.proofs.laws.texts_are_too_narrow_for_characters.Goals as goal

pub returns : goal.returns
returns g c = search (rules, text_words_fit, text_never, text_wide, text_wide_word, text_in_two)

-- Where a block is at the beginning of a hard line.
use Rattle.tbr_model.proofs.Common.{◌≡◌, false, None, [], has_character, Progress}

-- Nothing is laid, no space waits, no character is in the word, which may hold markers, and no line goes on.
pub record BeginsHardLine {A : Type 0} (p : Progress A) : Type 0 where
  pub done : p.laid.done ≡ []
  pub line : p.laid.line ≡ []
  pub width : p.laid.width ≡ 0
  pub space : p.space ≡ None
  pub word : has_character p.word ≡ false
  pub continuation_flag : p.continuation_flag ≡ false
  pub in_continuation : p.in_continuation ≡ false

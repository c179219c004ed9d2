use Rattle.tbr_flat.proofs.Common.{chars}
use Rattle.tbr_flat.proofs.MarkedItems.{text_markers}
use Rattle.tbr_flat.proofs.flat_text.FlatText.place_with.Goals as goal

pub returns-then-not-is_word_empty-clause-markers : goal.returns-then-not-is_word_empty-clause-markers
returns-then-not-is_word_empty-clause-markers g c =
    let p = c.in_ok-push_text.ensures in rw (p.2, text_markers c.args.self.now.word (chars c.args.text.now) p.0) at c.place_word.ensures.markers

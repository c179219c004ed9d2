use Rattle.tbr_flat.proofs.MarkedItems.{some_character}
use Rattle.tbr_flat.proofs.flat_text.FlatText.has_word.Goals as goal

pub returns : goal.returns
returns g c =
    rw (← c.self.view_is) (some_character c.is_word_empty.result c.self.inside.text.word c.self.inside.word.markers c.holds_characters.ensures.word c.is_word_empty.ensures)

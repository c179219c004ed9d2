use Rattle.tbr_flat.proofs.MarkedItems.{items_width-marked}
use Rattle.tbr_flat.proofs.flat_text.FlatText.word_width.Goals as goal

pub returns : goal.returns
returns g c = rw (← c.self.view_is, items_width-marked g.W.CharWidth.columns c.self.inside.text.word c.self.inside.word.markers) c.word_width.ensures

use Rattle.tbr_flat.proofs.MarkedItems.{some_character}
use Rattle.tbr_flat.proofs.flat_text.FlatText.has_placed.Goals as goal

pub returns : goal.returns
returns g c =
    rw (← c.self.view_is) (some_character c.is_placed_empty.result c.self.inside.text.placed c.self.inside.placed.markers c.holds_characters.ensures.placed c.is_placed_empty.ensures)

use Rattle.tbr_flat.proofs.Common.{arith}
use Rattle.tbr_flat.proofs.MarkedItems.{length-marked}
use Rattle.tbr_flat.proofs.flat_text.FlatText.word_len.Goals as goal

pub returns-in-Some : goal.returns-in-Some
returns-in-Some g c =
    rw (← c.self.view_is, length-marked c.self.inside.text.word c.self.inside.word.markers) (omega (arith, c.in-Some.ensures.1, c.word_len.ensures, c.len.ensures))

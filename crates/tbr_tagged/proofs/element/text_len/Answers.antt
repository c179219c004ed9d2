use Rattle.tbr_tagged.proofs.GrownLines.{bytes_of_chars}
use Rattle.tbr_tagged.proofs.element.text_len.Goals as goal

pub returns-in-Some : goal.returns-in-Some
returns-in-Some g c = rw (c.in-Some.is, ← c.as_str.ensures) (bytes_of_chars c.as_str.result.now c.as_str.utf8)

use Rattle.tbr_tagged.proofs.MappedTags.{merged_piece_has}
use Rattle.tbr_tagged.proofs.laws.merged_pieces_have_characters.Goals as goal

pub returns : goal.returns
returns g c = merged_piece_has

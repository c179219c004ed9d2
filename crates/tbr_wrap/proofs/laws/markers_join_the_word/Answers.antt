use Rattle.tbr_wrap.proofs.runs.BlockLaws.{marker_columns, marker_character, marker_either, marker_first}
use Rattle.tbr_wrap.proofs.laws.markers_join_the_word.Goals as goal

pub returns : goal.returns
returns g c = record { columns = marker_columns; character = marker_character; either = marker_either; first = marker_first }

use Rattle.text_block_renderer.proofs.ActParts.{texts_only_come}
use Rattle.text_block_renderer.proofs.laws.rows.a_row_takes_no_text_back.Goals as goal

pub returns : goal.returns
returns g c = texts_only_come

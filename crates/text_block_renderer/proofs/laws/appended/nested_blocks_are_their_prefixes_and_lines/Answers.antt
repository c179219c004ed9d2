use Rattle.text_block_renderer.proofs.NestedLines.{nested_line, nested_count, hand_on}
use Rattle.text_block_renderer.proofs.laws.appended.nested_blocks_are_their_prefixes_and_lines.Goals as goal

pub returns : goal.returns
returns g c = record { line = nested_line; count = nested_count; calls = hand_on }

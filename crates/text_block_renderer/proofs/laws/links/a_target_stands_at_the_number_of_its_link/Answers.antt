use Rattle.text_block_renderer.proofs.LinkNumbers.{targets_come, own_place, footnote_at}
use Rattle.text_block_renderer.proofs.laws.links.a_target_stands_at_the_number_of_its_link.Goals as goal

pub returns : goal.returns
returns g c = record { targets = targets_come; place = own_place; footnote = footnote_at }

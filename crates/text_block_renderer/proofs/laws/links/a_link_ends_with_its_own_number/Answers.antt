use Rattle.text_block_renderer.proofs.LinkNumbers.{own_number, number_of_one}
use Rattle.text_block_renderer.proofs.laws.links.a_link_ends_with_its_own_number.Goals as goal

pub returns : goal.returns
returns g c = record { number = own_number; from_new = number_of_one }

use Rattle.text_block_renderer.proofs.CallCharacters.{calls_keep, handed_have}
use Rattle.text_block_renderer.proofs.RowCharacters.{acts_keep}
use Rattle.text_block_renderer.proofs.laws.columns.characters_have_columns.Goals as goal

pub returns : goal.returns
returns g c = record {
  new = λ columns width options decorator. (tt, tt);
  inside = λ columns decoration width r. (tt, tt);
  calls = λ columns decoration calls r s draws good h steps. calls_keep columns draws decoration calls r s good steps h;
  acts = λ columns decoration acts r s draws good h leads. acts_keep columns draws decoration acts r s good leads h;
  handed_out = λ columns r lines draws h gives. handed_have columns draws r lines h gives;
  from_new = λ columns decoration width options decorator acts s lines draws good leads gives.
      handed_have columns draws s lines (acts_keep columns draws decoration acts _ s good leads (tt, tt)) gives;
}

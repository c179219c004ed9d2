use Rattle.tbr_wrap.proofs.Common.{chars, refl}
use Rattle.tbr_wrap.proofs.runs.BlockLaws.{text_in_two}
use Rattle.tbr_wrap.proofs.block.WrappedBlock.add_text.Goals as goal

pub returns-clause-two_columns : goal.returns-clause-two_columns
returns-clause-two_columns g c = λ live two is.
    text_in_two g.W.CharWidth.columns (g.met.W.CharWidth.drawn_in_one 32 refl) g.met.W.CharWidth.at_most_two
    c.args.self.now (chars c.args.text.now) c.args.main_tag.now c.args.wrap_tag.now c.args.ws_mode two live
    (c.add_whole.ensures.answers.too_narrow is)

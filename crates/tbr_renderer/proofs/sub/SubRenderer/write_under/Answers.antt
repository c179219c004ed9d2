use Rattle.tbr_renderer.proofs.Common.{rules, text_in_two}
use Rattle.tbr_renderer.proofs.JoinedTexts.{writes}
use Rattle.tbr_renderer.proofs.sub.SubRenderer.write_under.Goals as goal

pub returns-clause-writes : goal.returns-clause-writes
returns-clause-writes g c = search (rules, writes, c.requires.fresh, c.requires.main, c.requires.continued, c.mode.ensures, c.add_text.ensures.answers.ok, c.add_text.ensures.answers.too_narrow)

pub returns-clause-two_columns : goal.returns-clause-two_columns
returns-clause-two_columns g c = search (rules, text_in_two, c.requires.fresh.is, c.add_text.ensures.answers.too_narrow)

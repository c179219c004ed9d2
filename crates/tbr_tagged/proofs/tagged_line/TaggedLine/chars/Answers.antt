use Rattle.tbr_tagged.proofs.Common.{sym, ◌∙◌, refl, chars-nil}
use Rattle.tbr_tagged.proofs.LineWalks.{items_have_characters}
use Rattle.tbr_tagged.proofs.tagged_line.TaggedLine.chars.Goals as goal

pub returns-clause-text : goal.returns-clause-text
returns-clause-text g c = rw (c.chars.ensures.rest, chars-nil, c.iter.ensures, c.self.view_is) refl

pub returns-clause-items : goal.returns-clause-items
returns-clause-items g c = returns-clause-text g c ∙ sym (items_have_characters c.args.self.now)

use Rattle.tbr_tagged.proofs.Common.{◌++◌, ap, ◌∙◌, characters}
use Rattle.std.specs.Str.{chars}
use Rattle.tbr_tagged.proofs.tagged_line.TaggedLine.to_text.Goals as goal

pub returns : goal.returns
unfolding chars
returns g c = c.in_ok-append_to.ensures ∙ ap (λ bytes. chars bytes ++ characters c.args.self.now) c.new-text.ensures.bytes

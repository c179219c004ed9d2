use Rattle.std.proofs.Common.{rules, ◌≡◌, subst}
use Rattle.tbr_tagged.specs.View.{chars_of}
use Rattle.tbr_c_lines.specs.Copied.{IsCopied}
use Rattle.tbr_c_lines.specs.Lines.{text_of}
use Rattle.tbr_c_lines.specs.Status.{status_of}
use Rattle.tbr_c_lines.proofs.Copied.{copied_as}
use Rattle.tbr_c_lines.proofs.lines.Lines.copy_text.Goals as goal

pub returns-in-Text-clause-text : goal.returns-in-Text-clause-text
returns-in-Text-clause-text c =
    let done = c.copy_out in
    let same : chars_of c.in-Text.text ≡ text_of c.args.self.now.rest = search rules in
    copied_as c.in-Text.text _ c.args.out.now done.new.out c.args.needed.now done.new.needed (status_of done.result) same
    (subst (λ bytes. IsCopied bytes c.args.out.now done.new.out done.new.needed (status_of done.result)) c.as_bytes.ensures.value done.ensures)

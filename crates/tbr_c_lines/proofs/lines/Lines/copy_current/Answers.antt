use Rattle.std.proofs.Common.{◌≡◌, ◌++◌, chars, sym, ap, subst, ◌∙◌}
use Rattle.std.specs.Option.{ok_or}
use Rattle.std.proofs.lemmas.Str.{chars-nil}
use Rattle.tbr_tagged.specs.View.{chars_of}
use Rattle.tbr_c_lines.specs.Copied.{IsCopied, CopiesMade}
use Rattle.tbr_c_lines.specs.Formats.{line_as, is_bare, bytes_as}
use Rattle.tbr_c_lines.specs.Status.{status_of}
use Rattle.tbr_c_lines.specs.declared.fault.Fault.TheVariants as fault
use Rattle.tbr_c_lines.proofs.Copied.{copied_as}
use Rattle.tbr_c_lines.proofs.lines.Lines.copy_current.Goals as goal

pub returns-clause-shown : goal.returns-clause-shown
returns-clause-shown c =
    let done = c.copy_out in
    let text = c.push_line.new.text in
    let line = c.in_ok-line.line.now in
    let lines = c.args.self.now in
    let format = c.args.format in
    let cs = line_as (is_bare lines.rest) format line in
    let empty = ap chars c.new-text.ensures.bytes ∙ chars-nil in
    let bare = c.is_bare.ensures ∙ ap (λ l. is_bare l.rest) c.self.view_is in
    let same : chars_of text ≡ cs = c.in_ok-push_line.ensures ∙ ap (λ ds. ds ++ line_as c.is_bare.result format line) empty ∙ ap (λ b. line_as b format line) bare in
    let copied = copied_as text cs c.args.out.now done.new.out c.args.needed.now done.new.needed (status_of done.result) same
    (subst (λ bytes. IsCopied bytes c.args.out.now done.new.out done.new.needed (status_of done.result)) c.as_bytes.ensures.value done.ensures) in
    subst (λ o. CopiesMade (bytes_as lines.rest format (ok_or o fault.NoLine)) c.args.out.now done.new.out c.args.needed.now done.new.needed (status_of done.result))
    (sym c.in_ok-line.ensures) copied

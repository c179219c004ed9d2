use Rattle.std.proofs.Common.{rules, ◌≡◌, flat_map, subst}
use Rattle.tbr_tagged.specs.View.{chars_of}
use Rattle.tbr_c_lines.specs.Copied.{IsCopied}
use Rattle.tbr_c_lines.specs.Status.{status_of}
use Rattle.tbr_c_lines.specs.Lines.{line_text}
use Rattle.tbr_c_lines.proofs.Copied.{copied_as}
use Rattle.tbr_c_lines.proofs.lines.copy_kept.Goals as goal
use Rattle.tbr_c_lines.proofs.lines.copy_kept.Goals.{in-Some, in-None+in_ok-text-in-None}

pub returns-clause-text : goal.returns-clause-text
returns-clause-text g c =
    let done = c.copy_out-done in
    let text = c.match-take.text in
    let same : chars_of text ≡ flat_map line_text c.args.lines.now.items = elim c.match-take.branch [ in-Some w ↦ search rules | in-None+in_ok-text-in-None w ↦ search rules ] in
    copied_as text _ c.args.out.now done.new.out c.args.needed.now done.new.needed (status_of done.result) same
    (subst (λ bytes. IsCopied bytes c.args.out.now done.new.out done.new.needed (status_of done.result)) c.as_bytes.ensures.value done.ensures)

use Rattle.std.proofs.Common.{◌≡◌, false, chars, sym, ap, ◌∙◌}
use Rattle.std.specs.Char.{is_control}
use Rattle.std.specs.List.{list_any}
use Rattle.tbr_tagged.specs.View.{chars_of}
use Rattle.tbr_safe.proofs.Controls.{stays}
use Rattle.tbr_safe.proofs.escapes.escape_one.Goals as goal

pub returns-else-has_control : goal.returns-else-has_control
returns-else-has_control c =
    let none : list_any is_control (chars c.as_str.result.now) ≡ false = sym c.has_control.ensures ∙ c.if-has_control.false in
    sym (stays (chars_of c.args.text) (ap (λ bs. list_any is_control (chars bs)) (sym c.as_str.ensures.value) ∙ none))

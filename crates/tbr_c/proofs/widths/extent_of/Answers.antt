use Rattle.tbr_c.proofs.Common.{ℕ, List, Ok, Err, ap, sym, ◌∙◌, unicode_columns, NotUtf8}
use Rattle.std.proofs.Common.{chars}
use Rattle.tbr_tables.specs.Numbers.{any_width}
use Rattle.tbr_tables.specs.Ruler.{no_text, after_text, room_of}
use Rattle.tbr_c.specs.Arguments.{extent_of}
use Rattle.tbr_c.proofs.Texts.{read_text, read_no_text, extent_read}
use Rattle.tbr_c.proofs.widths.extent_of.Goals as goal

pub returns-in_default : goal.returns-in_default
returns-in_default c =
    let named = sym c.mode_named.ensures ∙ c.in_ok-mode.was in
    sym (extent_read c.args.mode c.args.text.now c.in_ok-mode.mode (Err NotUtf8) named
    (read_no_text c.args.text.now c.in_default.ensures.cases.0))

pub returns : goal.returns
returns c =
    let named = sym c.mode_named.ensures ∙ c.in_ok-mode.was in
    let room = λ (text : List ℕ). room_of (after_text unicode_columns c.in_ok-mode.mode (chars text) (no_text any_width any_width)) in
    let (same, well) = c.in-Ok.ensures.cases in
    ap Ok (c.of.ensures ∙ ap extent_of (c.measure.ensures ∙ ap room same))
    ∙ sym (extent_read c.args.mode c.args.text.now c.in_ok-mode.mode (Ok c.args.text.now) named
    (read_text c.args.text.now well))

use Rattle.std.proofs.Common.{refl, sym, ap, ◌∙◌, arith}
use Rattle.std.proofs.lemmas.Str.{lead_after_ascii}
use Rattle.tbr_script.proofs.Texts.{parted_at}
use Rattle.tbr_commands.specs.Read.{split_at_space}
use Rattle.tbr_commands.proofs.Commands.{unsplit}
use Rattle.tbr_commands.proofs.Reading.{split}
use Rattle.tbr_commands.proofs.spaces.split_at_space.Goals as goal

pub returns-in_err-at : goal.returns-in_err-at
returns-in_err-at c =
    rw c.from_residual.ensures (sym (unsplit c.args.text.now (rw c.as_bytes.ensures.value at c.in_err-at.ensures.none refl)))

pub range_from-requires : goal.range_from-requires
range_from-requires c = λ _.
    let first = rw c.as_bytes.ensures.value at c.in_ok-at.ensures.some in
    (omega (arith, first.0), lead_after_ascii c.args.text.now c.in_ok-at.at c.utf8.text (omega (arith, first.1)))

pub returns : goal.returns
returns c =
    let first = rw c.as_bytes.ensures.value at c.in_ok-at.ensures.some in
    let parts = parted_at 32 c.args.text.now _ _ c.in_ok-at.at first.0 first.1 first.2 c.range.ensures.value c.range_from.ensures.value in
    sym (ap split_at_space parts.0 ∙ split _ _ parts.1)

use Rattle.tbr_program.proofs.Common.{◌∙◌, ap, sym, encode_utf8_all, string_bytes, IsUtf8-string_bytes, changed, lines_text}
use Rattle.tbr_program.proofs.Notes.{text_of_lines}
use Rattle.tbr_program.proofs.Results.{if_ok_then}
use Rattle.tbr_program.proofs.closing.close.Goals as goal

pub returns-clause-text : goal.returns-clause-text
returns-clause-text g c =
    if_ok_then c.into_string.result
    (λ text h. ap (changed (λ lines. encode_utf8_all (lines_text lines)))
    (sym c.in_ok-with_footnotes.ensures.noted) ∙ text_of_lines _ (string_bytes text) (IsUtf8-string_bytes text) h) c.into_string.ensures.text

pub returns-clause-too_narrow : goal.returns-clause-too_narrow
returns-clause-too_narrow g c = λ narrow. ap (changed (λ lines. encode_utf8_all (lines_text lines))) (sym c.in_ok-with_footnotes.ensures.noted ∙ c.into_string.ensures.too_narrow narrow)

use Rattle.tbr_show.proofs.Common.{ap, ◌∙◌, ◌++◌, sym, string_bytes, codes, chars_of, begins}
use Rattle.tbr_show.specs.Html.{address}
use Rattle.tbr_show.proofs.Appended.{one_after, on_ok_then}
use Rattle.tbr_show.proofs.html.push_begin.Goals as goal

pub returns-in_ok-push_address-in-Image : goal.returns-in_ok-push_address-in-Image
returns-in_ok-push_address-in-Image c =
    let start = chars_of c.args.text.now in
    let one = codes "<span title=\"" in
    let place = address (string_bytes c.in-Image.source) in
    let source = c.in_ok-push_address-in-Image.ensures ∙ ap (λ bs. chars_of c.push_ascii.new.text ++ address bs) c.as_str-in-Image.ensures.value in
    let second = one_after start one place (chars_of c.push_ascii.new.text) (chars_of c.push_address.new.text) c.in_ok-push_ascii-in-Image.ensures source in
    on_ok_then c.push_ascii-in-Image.result
    (λ h. one_after start (one ++ place) (codes "\">") (chars_of c.push_address.new.text) (chars_of c.push_ascii-in-Image.new.text) second h ∙ ap (λ a. start ++ begins a) (sym c.in-Image.is))
    c.push_ascii-in-Image.ensures

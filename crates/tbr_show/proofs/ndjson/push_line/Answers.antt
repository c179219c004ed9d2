use Rattle.tbr_show.proofs.Common.{ap, ◌∙◌, ◌++◌, ◌∷◌, [], List, newline_character, chars_of}
use Rattle.json.specs.Token.{Token}
use Rattle.tbr_show.specs.Ndjson.{written, line_tokens}
use Rattle.tbr_show.proofs.Appended.{one_after, on_ok_then}
use Rattle.tbr_show.proofs.ndjson.push_line.Goals as goal

pub push_written-requires : goal.push_written-requires
push_written-requires g c = c.in_ok-write_line.ensures.before ∙ c.new-writer.ensures.before ∙ c.new.ensures.items

pub returns : goal.returns
returns g c =
    let start = chars_of c.args.text.now in
    let tokens = line_tokens g.W.CharWidth.columns c.args.is_border c.args.line.now in
    let made = c.in_ok-write_line.ensures.tokens ∙ ap (λ (ts : List Token). ts ++ tokens) c.new-writer.ensures.tokens in
    on_ok_then c.push_ascii.result
    (λ h. one_after start (written tokens) (newline_character ∷ []) (chars_of c.push_written.new.text) (chars_of c.push_ascii.new.text)
    (c.in_ok-push_written.ensures ∙ ap (λ ts. start ++ written ts) made) h)
    c.push_ascii.ensures

use Rattle.tbr_show.proofs.Common.{ap, ◌∙◌, ◌++◌, append_assoc, flat_map, element_tokens}
use Rattle.tbr_tagged.specs.Elements.{line_width}
use Rattle.tbr_show.specs.Ndjson.{begin_tokens, end_tokens}
use Rattle.tbr_show.proofs.Appended.{one_after, on_ok_then}
use Rattle.tbr_show.proofs.ndjson.write_line.Goals as goal

pub returns-clause-tokens : goal.returns-clause-tokens
returns-clause-tokens g c =
    let columns = g.W.CharWidth.columns in
    let old = c.args.writer.now.tokens in
    let begins = begin_tokens c.args.is_border (line_width columns c.args.line.now) in
    let pieces = flat_map (element_tokens columns) c.args.line.now in
    let begun = c.in_ok-begin_line.ensures.tokens ∙ ap (λ n. old ++ begin_tokens c.args.is_border n) c.in_ok-width.ensures in
    let most = one_after old begins pieces c.begin_line.new.writer.tokens c.write_elements.new.writer.tokens begun c.in_ok-write_elements.ensures.tokens in
    on_ok_then c.end_line.result
    (λ h. one_after old (begins ++ pieces) end_tokens c.write_elements.new.writer.tokens c.end_line.new.writer.tokens most h
    ∙ ap (λ ts. old ++ ts) (append_assoc begins pieces end_tokens))
    c.end_line.ensures.tokens

use Rattle.std.proofs.Common.{[], Some, None, lit<, sym, ap, ◌∙◌}
use Rattle.std.specs.Option.{option_and_then}
use Rattle.std.proofs.lemmas.Str.Pattern.{strip_prefix_char, split_parts}
use Rattle.tbr_script.specs.Read.{at_brace, with_character, read_from, text_read}
use Rattle.tbr_script.proofs.Texts.{no_opening, no_closing, braced}
use Rattle.tbr_script.proofs.escape.named.Goals as goal

pub returns-in_err-strip_prefix-clause-text : goal.returns-in_err-strip_prefix-clause-text
returns-in_err-strip_prefix-clause-text c =
    rw c.from_residual.ensures (no_opening c.args.after.now (strip_prefix_char 123 c.args.after.now None c.in_err-strip_prefix.ensures.cases (lit< tt)))

pub returns-in_err-digits-clause-text : goal.returns-in_err-digits-clause-text
returns-in_err-digits-clause-text c =
    let inner = c.in_ok-strip_prefix.field-0 in
    let brace = strip_prefix_char 123 c.args.after.now (Some inner) c.in_ok-strip_prefix.ensures.cases (lit< tt) in
    rw c.from_residual-in_err-digits.ensures (no_closing [] inner.now (split_parts 125 inner.now None c.in_err-digits.ensures.cases (lit< tt)) ∙ sym (ap (read_from at_brace) brace))

pub returns-in_err-character-clause-text : goal.returns-in_err-character-clause-text
returns-in_err-character-clause-text c =
    let inner = c.in_ok-strip_prefix.field-0 in
    let digits = c.in_ok-digits.digits in
    let rest = c.in_ok-digits.rest in
    let brace = strip_prefix_char 123 c.args.after.now (Some inner) c.in_ok-strip_prefix.ensures.cases (lit< tt) in
    rw c.from_residual-in_err-character.ensures (ap (option_and_then (λ d. with_character d (text_read rest.now))) c.in_err-character.ensures
    ∙ braced c.args.after.now inner.now digits.now rest.now brace (split_parts 125 inner.now (Some (digits, rest)) c.in_ok-digits.ensures.cases (lit< tt)))

pub returns-clause-text : goal.returns-clause-text
returns-clause-text c =
    let inner = c.in_ok-strip_prefix.field-0 in
    let digits = c.in_ok-digits.digits in
    let rest = c.in_ok-digits.rest in
    let brace = strip_prefix_char 123 c.args.after.now (Some inner) c.in_ok-strip_prefix.ensures.cases (lit< tt) in
    ap (option_and_then (λ d. with_character d (text_read rest.now))) c.in_ok-character.ensures
    ∙ braced c.args.after.now inner.now digits.now rest.now brace (split_parts 125 inner.now (Some (digits, rest)) c.in_ok-digits.ensures.cases (lit< tt))

use Rattle.std.proofs.Common.{ℕ, ◌∙◌, string_bytes, encode_utf8, rules}
use Rattle.std.proofs.lemmas.Iterator.Adapters.{option_map_id}
use Rattle.tbr_script.specs.Read.{text_read}
use Rattle.tbr_script.proofs.Texts.{at_escape, at_end, joined}
use Rattle.tbr_script.proofs.escape.unescape.Goals as goal

pub loop-before-init : goal.loop-before-init
loop-before-init c = search (rules, ℕ, option_map_id, c.in_ok-text.ensures.bytes)

pub returns-in_default-escape : goal.returns-in_default-escape
returns-in_default-escape c = search (rules, at_escape, c.loop-before.invariant.text, c.in-Some.ensures.text, c.in_default-escape.ensures.text)

pub loop-before-preserved : goal.loop-before-preserved
loop-before-preserved c =
    let later = c.in-Some-escape.later.now in
    let before = c.in-Some.before.now in
    let text = string_bytes c.loop-before.text in
    let d = encode_utf8 c.in-Some-escape.c in
    record {
      utf8 = search rules;
      text = at_escape c.args.writing.now text c.loop-before.rest.now c.loop-before.invariant.text before _ _
          c.in-Some.ensures.text c.in-Some-escape.ensures.text
          ∙ joined text before d (string_bytes c.push_str.new.self) (string_bytes c.push.new.self) (text_read later) c.in_ok-push_str.ensures.bytes c.in_ok-push.ensures.bytes;
    }

pub returns : goal.returns
returns c = search (rules, at_end, c.loop-before.invariant.text, c.in_default.ensures.none, c.in_ok-push_str-2.ensures.bytes)

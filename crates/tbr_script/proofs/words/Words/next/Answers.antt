use Rattle.std.proofs.Common.{◌∙◌, sym, ap, lit<, Some, None}
use Rattle.std.proofs.lemmas.Str.Pattern.{split_parts}
use Rattle.tbr_script.specs.Script.{words_of, words_after}
use Rattle.tbr_script.proofs.FirstWord.{one_word, word_before}
use Rattle.tbr_script.proofs.words.Words.next.Goals as goal

pub returns-in_default : goal.returns-in_default
returns-in_default c = sym c.self.view_is ∙ ap words_after c.in_ok-text.was ∙ one_word c.in_ok-text.text.now (split_parts 32 c.in_ok-text.text.now None c.in_default.ensures.cases (lit< tt))

pub returns : goal.returns
returns c =
    let parts = split_parts 32 c.in_ok-text.text.now (Some (c.in-Some.word, c.in-Some.rest)) c.in-Some.ensures.cases (lit< tt) in
    sym c.self.view_is ∙ ap words_after c.in_ok-text.was ∙ ap words_of parts.0 ∙ word_before c.in-Some.word.now c.in-Some.rest.now parts.1

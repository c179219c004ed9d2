use Rattle.tbr_flat.proofs.Common.{◌∙◌, ◌-◌, length, ap, drop, rules, Flat}
use Rattle.tbr_flat.proofs.TrimmedCharacters.{blanks_placed, blanks_word, word_trimmed}
use Rattle.tbr_flat.proofs.characters.Characters.trim_word.Goals as goal

pub returns-clause-word : goal.returns-clause-word
returns-clause-word g c = λ front rest parts len.
    let p = c.self.inside.placed in let w = c.self.inside.word in let ts = c.self.inside.tags in let e = c.pop_blanks-blanks.ensures in let n = c.pop_blanks-blanks.result in
    let t =
    word_trimmed w (drop (length p) ts) n c.args.first front rest e.blank e.most
    (λ less x more f. e.all less x more (e.rest ∙ f))
    (ap (λ (f : Flat g.row.T.Denot). f.word) c.self.view_is ∙ parts) len in
    (rw (c.remove_before.ensures, e.rest) (blanks_word p w ts n (c.len-word.result - n) c.self.invariant e.within (ap (λ m. m - n) c.len-word.ensures.len) ∙ t.0), t.1)

pub returns-clause-placed : goal.returns-clause-placed
returns-clause-placed g c = search (rules, blanks_placed, c.self.view_is, c.remove_before.ensures, c.self.invariant, c.pop_blanks-blanks.ensures.within, c.len-word.ensures.len)

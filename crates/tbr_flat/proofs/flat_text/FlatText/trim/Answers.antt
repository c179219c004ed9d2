use Rattle.tbr_flat.proofs.Common.{arith, ◌∙◌, sym, rules}
use Rattle.tbr_flat.proofs.TrimmedItems.{trimmed_within, trimmed_covers, trimmed_line, led_within, led_covers, led_word}
use Rattle.tbr_flat.proofs.flat_text.FlatText.trim.Goals as goal

pub remove_last-requires : goal.remove_last-requires
remove_last-requires g c = trimmed_within _ _ c.self.inside.placed c.args.most _ _ c.self.invariant.0 (omega arith) c.trim_placed-spaces.ensures.placed

pub remove_first-requires : goal.remove_first-requires
remove_first-requires g c =
    led_within _ _ c.self.inside.word _ c.self.invariant.1 (λ front rest e len. c.trim_word-blanks.ensures.word front rest (c.trim_placed-spaces.ensures.word ∙ e) (len ∙ sym c.before-2.ensures))

pub invariant_of-self : goal.invariant_of-self
invariant_of-self g c = (
  rw (c.remove_last.ensures, c.trim_word-blanks.ensures.placed) (trimmed_covers _ _ c.self.inside.placed c.args.most _ _ c.self.invariant.0 (omega arith) c.trim_placed-spaces.ensures.placed),
  rw c.remove_first.ensures
      (led_covers _ _ c.self.inside.word _ c.self.invariant.1 (λ front rest e len. c.trim_word-blanks.ensures.word front rest (c.trim_placed-spaces.ensures.word ∙ e) (len ∙ sym c.before-2.ensures))),
)

pub returns-clause-placed : goal.returns-clause-placed
returns-clause-placed g c =
    rw (← c.self.view_is, c.remove_last.ensures, c.trim_word-blanks.ensures.placed)
    (trimmed_line _ _ c.self.inside.placed c.args.most _ _ c.self.invariant.0 (omega arith) c.trim_placed-spaces.ensures.placed)

pub returns-clause-word : goal.returns-clause-word
returns-clause-word g c = search (rules, led_word, c.self.view_is, c.remove_first.ensures, c.self.invariant.1, c.trim_word-blanks.ensures.word, c.trim_placed-spaces.ensures.word, c.before-2.ensures)

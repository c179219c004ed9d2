-- Where footnotes come.
use Rattle.rule_examples.proofs.Common.{◌≡◌, refl, [], ◌∷◌, codes, done, and_then, default_options, new_renderer, add_inline_text, new_line, call, plain_decoration, example_columns, plain_page}
use Rattle.rule_examples.proofs.Common.{lines_on}
use Rattle.tbr_model.specs.Hard.{entry_letters}
use Rattle.tbr_tagged.specs.Elements.{piece}
use Rattle.tbr_renderer.specs.Flush.{after_flush}
use Rattle.tbr_renderer.specs.Footnotes.{with_footnotes}
use Rattle.tbr_renderer.specs.Steps.{after_text}
use Rattle.text_block_renderer.specs.Acts.{fmt_links, acts_come}

-- their lines come before those of the open run
pub a_footnote_comes_before_the_open_run :
    lines_on (and_then (after_text example_columns (λ _ _. 0) (codes "a") (plain_page 9))
    (λ page. after_flush example_columns (with_footnotes example_columns page ((piece (codes "b") 7 ∷ []) ∷ []))))
    ≡ done (codes "b" ∷ codes "a" ∷ [])
a_footnote_comes_before_the_open_run = refl

-- and so they do in what came
pub a_footnote_is_brought_before_the_open_run :
    entry_letters (acts_come example_columns plain_decoration
    (call (add_inline_text (codes "a")) ∷ fmt_links ((piece (codes "b") tt ∷ []) ∷ []) ∷ call new_line ∷ [])
    (new_renderer 9 default_options (record {})) []) ≡ codes "ba"
a_footnote_is_brought_before_the_open_run = refl

-- The same at the columns that terminals give characters.
use Rattle.rule_examples.proofs.Common.{◌≡◌, refl, false, [], ◌∷◌, codes, Normal, done, text, flush, made, lines_of, line}
use Rattle.tbr_tagged.specs.UnicodeColumns.{unicode_columns}
use Rattle.unicode_width.specs.Width.{char_width}

pub words_are_wrapped : {A : Type 0} (a b : A) →
    lines_of (made unicode_columns 8 false (text Normal a b (codes "Hello, world.  Superlongwordreally") ∷ flush ∷ []))
    ≡ done (line a (codes "Hello,") ∷ line a (codes "world.")
    ∷ line a (codes "Superlon") ∷ line a (codes "gwordrea") ∷ line a (codes "lly") ∷ [])
unfolding char_width
words_are_wrapped a b = refl

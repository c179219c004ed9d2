-- How wide texts are.
use Rattle.std.specs.Prelude.{ℕ, List, chars}
use Rattle.tbr_model.specs.Width.{width_of_text}
use Rattle.tbr_tagged.specs.UnicodeColumns.{unicode_columns}

-- the columns of a text by its bytes
abbrev pub columns_of : List ℕ → ℕ
columns_of text = width_of_text unicode_columns (chars text)

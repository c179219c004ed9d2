-- Control characters have no columns, and all others have.
use Rattle.std.proofs.Common.{◌≡◌, ℕ, true, None, arith}
use Rattle.std.specs.Char.{is_control}
use Rattle.std.proofs.lemmas.Bool.Decides.{nat_tests}
use Rattle.unicode_width.specs.Width.{char_width}
use Rattle.tbr_tagged.specs.UnicodeColumns.{unicode_columns}

pub controls_have_none : (c : ℕ) → is_control c ≡ true → unicode_columns c ≡ None
unfolding char_width
controls_have_none c h = grind (arith, nat_tests)

pub none_is_control : (c : ℕ) → unicode_columns c ≡ None → is_control c ≡ true
unfolding char_width
none_is_control c none = grind (arith, nat_tests)

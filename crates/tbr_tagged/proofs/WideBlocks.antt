-- Blocks whose characters all take two columns.
use Rattle.tbr_tagged.proofs.Common.{◌≡◌, ℕ, ◌<◌, ◌≤◌, Bool, true, false, List, [], ◌∷◌, Some, refl, sym, ap, arith, eqb-true, nat_tests, unicode_columns}
use Rattle.unicode_width.specs.Width.{char_width}
use Rattle.std.proofs.Common.{not, ◌||◌, ◌==◌}
use Rattle.ucd_table.specs.Rows.{Range, in_ranges}
use Rattle.ucd_table.proofs.Computing.{tables}
use Rattle.ucd_table.proofs.Stepped.{of_ranges, zip_stepped}
use Rattle.ucd_table.proofs.Facts.{Stepped-always}
use Rattle.unicode_width.specs.Kind.{kind_number}
use Rattle.unicode_width.specs.Width.{alone}
use Rattle.unicode_width.proofs.KindLemmas.{kind_number_stepped}
use Rattle.unicode_width.proofs.WidthLemmas.{alone-small}
use Rattle.tbr_tagged.specs.UnicodeColumns.{is_in_wide_block}

abbrev wide_ranges : List Range
wide_ranges = (0x3001, 0x3029) ∷ (0x3041, 0x3096) ∷ (0x309B, 0x30FF) ∷ (0x3400, 0xA48C) ∷ (0xAC00, 0xD7A3) ∷ (0xFF01, 0xFF60) ∷ []

in_wide_ranges : (c : ℕ) → is_in_wide_block c ≡ true → in_ranges wide_ranges c ≡ true
unfolding in_ranges
in_wide_ranges c h = grind (arith, nat_tests)

wide_bounds : (c : ℕ) → is_in_wide_block c ≡ true → (0x3000 < c) × (c ≤ 0xFF60)
wide_bounds c h = grind (arith, nat_tests)

-- the table has the kind of two columns throughout
wide_kinds : (c : ℕ) → c ≤ 0x10_FFFF → (not (in_ranges wide_ranges c) || kind_number c == 2) ≡ true
unfolding tables kind_number_stepped
wide_kinds =
    let either = λ (within : Bool) (number : ℕ). not within || number == 2 in
    let steps = zip_stepped either (in_ranges wide_ranges) kind_number (of_ranges wide_ranges refl) kind_number_stepped in
    Stepped-always (λ c. either (in_ranges wide_ranges c) (kind_number c)) steps refl

wide_kind : (c : ℕ) → is_in_wide_block c ≡ true → kind_number c ≡ 2
wide_kind c h = eqb-true (kind_number c) 2 (rw (in_wide_ranges c h) at (wide_kinds c (omega (arith, (wide_bounds c h).1))))

pub wide_in_two : (c : ℕ) → is_in_wide_block c ≡ true → unicode_columns c ≡ Some 2
unfolding char_width
wide_in_two c h =
    let two : (alone false c).0 ≡ 2 = sym (ap (λ r. r.0) (alone-small false c 2 (sym (wide_kind c h)) (omega arith))) in
    let bounds = wide_bounds c h in
    grind (arith, nat_tests)

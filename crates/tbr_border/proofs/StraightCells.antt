-- Cells without a join at the beginning of others.
use Rattle.std.proofs.lemmas.Bool.{and_parts}
use Rattle.tbr_border.proofs.Common.{◌≡◌, ℕ, zero, suc, true, List, [], ◌∷◌, ◌++◌, take, drop, refl, sym, replicate, take-append-drop, chars-append, Horiz}
use Rattle.std.specs.Prelude.{chars}
use Rattle.std.specs.Str.{IsUtf8}
use Rattle.std.proofs.Math.Utf8.{encodes}
use Rattle.std.specs.Cmp.Lexicographic.{pointwise}
use Rattle.std.proofs.lemmas.Str.{chars-encodes}
use Rattle.tbr_border.specs.declared.border.cell.BorderSegHoriz.{BorderSegHoriz}
use Rattle.tbr_border.specs.contracts.border.cell.BorderSegHorizPartialEq.TheImpl as cell

is_straight : (x : BorderSegHoriz) → cell.ghosts.eq x Horiz ≡ true → x ≡ Horiz
is_straight Horiz h = refl
is_straight _ h = cc

all_straight : (n : ℕ) (xs : List BorderSegHoriz) → pointwise cell.ghosts.eq xs (replicate n Horiz) ≡ true → xs ≡ replicate n Horiz
all_straight zero [] h = refl
all_straight zero (x ∷ xs) h = cc
all_straight (suc n) [] h = cc
all_straight (suc n) (x ∷ xs) h =
    let each = and_parts (cell.ghosts.eq x Horiz) (pointwise cell.ghosts.eq xs (replicate n Horiz)) h in
    rw (is_straight x each.0, all_straight n xs each.1) refl

-- eight cells without a join, and the others
pub straight_first : (cells : List BorderSegHoriz) → pointwise cell.ghosts.eq (take 8 cells) (replicate 8 Horiz) ≡ true →
    cells ≡ replicate 8 Horiz ++ drop 8 cells
straight_first cells h = rw (all_straight 8 (take 8 cells) h) at (sym (take-append-drop 8 cells))

-- their text after another
pub straight_after : (bs : List ℕ) → IsUtf8 bs → chars (bs ++ encodes (replicate 8 9472)) ≡ chars bs ++ replicate 8 9472
straight_after bs utf8 = rw (chars-append bs (encodes (replicate 8 9472)) utf8, chars-encodes (replicate 8 9472) refl) refl

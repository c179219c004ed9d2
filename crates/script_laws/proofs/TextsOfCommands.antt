-- The texts of commands are UTF-8 where their line is.
use Rattle.script_laws.proofs.Common.{◌≡◌, ◌<◌, ◌+◌, ◌==◌, ℕ, Bool, true, false, Option, Some, None, inl, inr, List, [], ◌∷◌, ◌++◌, length, drop, flat_map, refl, ap, sym, ◌∙◌, subst, arith}
use Rattle.script_laws.proofs.Common.{append_assoc, append-nil, Each, Command, append, IsCommand}
use Rattle.std.specs.Prelude.{codes, encode_utf8, take}
use Rattle.std.proofs.Common.{get_or}
use Rattle.std.specs.Char.{IsScalar, digit_value}
use Rattle.std.specs.Str.{IsUtf8}
use Rattle.std.specs.Str.Parse.{AllDigits}
use Rattle.std.proofs.Math.Seq.{take-append_seam, drop-append-add, get_or-append_seam}
use Rattle.std.proofs.lemmas.Bool.Decides.{nat_tests}
use Rattle.std.proofs.lemmas.List.{length-append}
use Rattle.std.proofs.lemmas.Str.{IsUtf8-append, IsUtf8-encode, IsUtf8-take, IsUtf8-drop, IsCharBoundary-before_ascii, IsCharBoundary-after_ascii}
use Rattle.tbr_model.proofs.lists.Each.{each_append}
use Rattle.tbr_script.specs.Script.{Piece, itself, escape, IsPiece, IsEscape, written, meant, IsText, AreSplitTexts, character_by_letter}

-- a byte of ASCII parts a text
parts_at : (xs ys : List ℕ) (b : ℕ) → b < 128 → IsUtf8 (xs ++ b ∷ ys) → IsUtf8 xs × IsUtf8 ys
parts_at xs ys b ascii h =
    let bs = xs ++ b ∷ ys in
    let n = length xs in
    let here : get_or bs n 0 < 128 = subst (λ c. c < 128) (sym (get_or-append_seam xs b ys 0)) ascii in
    let inside : n < length bs = omega (arith, length-append xs (b ∷ ys)) in (
      subst IsUtf8 (take-append_seam xs (b ∷ ys)) (IsUtf8-take bs n h (IsCharBoundary-before_ascii bs n inside here)),
      subst IsUtf8 (drop-append-add xs (b ∷ ys) 1) (IsUtf8-drop bs (n + 1) h (IsCharBoundary-after_ascii bs n h inside here)),
    )

abbrev AreAscii : List ℕ → Type 0
AreAscii bs = Each (λ b. b < 128) bs

past_ascii : (bs rest : List ℕ) → AreAscii bs → IsUtf8 (bs ++ rest) → IsUtf8 rest
past_ascii [] rest a h = h
past_ascii (b ∷ bs) rest a h = past_ascii bs rest a.1 (parts_at [] (bs ++ rest) b a.0 h).1

-- ---- pieces

letter_is_ascii : (letter c : ℕ) → character_by_letter letter ≡ Some c → letter < 128
letter_is_ascii letter c h = grind (arith, nat_tests)

letter_is_scalar : (letter c : ℕ) → character_by_letter letter ≡ Some c → IsScalar c
letter_is_scalar letter c h = grind (arith, nat_tests)

digit_is_ascii : (b : ℕ) → digit_value b < 16 → b < 128
digit_is_ascii b h = grind (arith, nat_tests)

digits_are_ascii : (digits : List ℕ) → AllDigits 16 digits → AreAscii digits
digits_are_ascii [] h = tt
digits_are_ascii (d ∷ digits) h = (digit_is_ascii d h.0, digits_are_ascii digits h.1)

form_is_ascii : (form : List ℕ) (c : ℕ) → IsEscape form c → AreAscii form
form_is_ascii form c (inl (letter, is, means)) = subst AreAscii (sym is) (letter_is_ascii letter c means, tt)
form_is_ascii form c (inr (digits, is, names, means)) =
    subst AreAscii (sym is) (omega arith, (omega arith, each_append (λ b. b < 128) digits (codes "}") (digits_are_ascii digits names.0.1) (omega arith, tt)))

escape_is_scalar : (form : List ℕ) (c : ℕ) → IsEscape form c → IsScalar c
escape_is_scalar form c (inl (letter, is, means)) = letter_is_scalar letter c means
escape_is_scalar form c (inr (digits, is, names, means)) = subst IsScalar (sym means) names.2

pieces_mean : (front : List ℕ) (pieces : List Piece) → Each IsPiece pieces → IsUtf8 (front ++ flat_map written pieces) → IsUtf8 (front ++ flat_map meant pieces)
pieces_mean front [] are h = h
pieces_mean front (itself b ∷ pieces) are h =
    subst IsUtf8 (append_assoc front (b ∷ []) (flat_map meant pieces)) (pieces_mean (front ++ b ∷ []) pieces are.1 (subst IsUtf8 (sym (append_assoc front (b ∷ []) (flat_map written pieces))) h))
pieces_mean front (escape form c ∷ pieces) are h =
    let rest = flat_map written pieces in
    let (before, after) = parts_at front (form ++ rest) 92 (omega arith) h in
    let means = pieces_mean [] pieces are.1 (past_ascii form rest (form_is_ascii form c are.0) after) in
    IsUtf8-append front (encode_utf8 c ++ flat_map meant pieces) before (IsUtf8-append (encode_utf8 c) (flat_map meant pieces) (IsUtf8-encode c (escape_is_scalar form c are.0)) means)

text_utf8 : (writing text : List ℕ) → IsUtf8 writing → IsText writing text → IsUtf8 text
text_utf8 writing text h is = subst IsUtf8 is.means (pieces_mean [] is.pieces is.each (subst IsUtf8 (sym is.writes) h))

split_utf8 : (writing one other : List ℕ) → IsUtf8 writing → AreSplitTexts writing one other → IsUtf8 one × IsUtf8 other
split_utf8 writing one other h is =
    let (before, after) = parts_at is.before (codes "| " ++ is.after) 32 (omega arith) (subst IsUtf8 is.splits h) in
    (text_utf8 is.before one before is.one_is, text_utf8 is.after other (past_ascii (codes "| ") is.after (omega arith, (omega arith, tt)) after) is.other_is)

-- the two prefixes of `append`
pub prefixes_utf8 : (line first others : List ℕ) → IsCommand line (append first others) → IsUtf8 first × IsUtf8 others
prefixes_utf8 line first others is =
    let (argument, written_so, split) = is.writes in
    let ascii : AreAscii (codes "append ") = (omega arith, (omega arith, (omega arith, (omega arith, (omega arith, (omega arith, (omega arith, tt))))))) in
    split_utf8 argument first others (past_ascii (codes "append ") argument ascii (subst IsUtf8 written_so is.utf8)) split

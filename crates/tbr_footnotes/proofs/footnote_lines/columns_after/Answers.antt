use Rattle.std.proofs.Common.{◌≡◌, ◌<◌, ◌≢◌, ◌+◌, ℕ, length, get_or, chars, ap, subst, sym, ◌∙◌, Option, Some, None, Result, Ok, Err, unwrap_or, map, arith, true≢false}
use Rattle.std.specs.Option.{IfSome, SomeIff, is_some}
use Rattle.std.specs.Result.{result_ok}
use Rattle.tbr_tagged.specs.Sums.{GivesSum}
use Rattle.std.proofs.lemmas.Str.{encodes-chars}
use Rattle.std.proofs.lemmas.Str.Pattern.{NoCharPasses-char}
use Rattle.tbr_model.specs.Codes.{newline_character}
use Rattle.tbr_footnotes.specs.Footnote.{unbroken}
use Rattle.tbr_footnotes.proofs.CutLines.{unbroken_text}
use Rattle.tbr_footnotes.proofs.footnote_lines.columns_after.Goals as goal

-- a checked sum by other words, and what holds beside it
sum_is : {X : Type 0} (r : Option ℕ) (P : Type 0) (v w : ℕ) → SomeIff r P v → v ≡ w → X → IfSome r (λ n. n ≡ w) × IfSome r (λ _. X)
sum_is None P v w h e x = (tt, tt)
sum_is (Some n) P v w h e x = (h.1 ∙ e, x)

-- a sum that is given
sum_given : {E : Type 0} (r : Result ℕ E) (sum n : ℕ) → GivesSum r sum → Some n ≡ result_ok r → n ≡ sum
sum_given (Ok m) sum n h is = ap (λ o. unwrap_or o 0) is ∙ h
sum_given (Err e) sum n h is = absurd (true≢false (ap is_some is))

pub returns : goal.returns
returns g c =
    let t = c.args.text.now in
    let other : map unbroken (chars t) ≡ chars t = unbroken_text (chars t) (subst (λ bs. (i : ℕ) → i < length bs → get_or bs i 0 ≢ newline_character) (sym (encodes-chars t c.utf8.text))
    (λ i. NoCharPasses-char newline_character t i (c.if-contains.ensures.cases) (omega arith))) in
    let sums = sum_is c.checked_add.result _ _ _ c.checked_add.ensures (ap (λ n. c.args.before + n) (sum_given c.text_width.result _ _ c.text_width.ensures c.in_ok-more.ensures.value)) other in
    record { columns = sums.0; unbroken = sums.1 }

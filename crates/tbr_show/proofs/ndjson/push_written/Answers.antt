use Rattle.tbr_show.proofs.Common.{◌≡◌, Result, Ok, Err, refl, ap, sym, subst, ◌∙◌, ◌++◌, List, ℕ, chars, flat_map, chars_of, escaped}
use Rattle.std.proofs.Common.{IsOk}
use Rattle.std.specs.Prelude.{MatchResult}
use Rattle.std.specs.Str.{IsUtf8}
use Rattle.json.specs.Print.{print}
use Rattle.tbr_show.proofs.Appended.{on_ok_then}
use Rattle.tbr_show.proofs.ndjson.push_written.Goals as goal

is_ok_where : {X E U : Type 0} (P : X → Type 0) (Q : E → Type 0) (r : Result X E) → U → MatchResult r P (λ e. ¬ U × Q e) → IsOk r
is_ok_where P Q (Ok x) u h = refl
is_ok_where P Q (Err e) u h = absurd (h.0 u)

at_ok : {X E : Type 0} (P : X → Type 0) (Q : E → Type 0) (r : Result X E) (x : X) → r ≡ Ok x → MatchResult r P Q → P x
at_ok P Q r x is h = subst (λ q. MatchResult q P Q) is h

pub unwrap-requires : goal.unwrap-requires
unwrap-requires c =
    let bytes = c.as_slice.ensures.value ∙ c.into_inner-bytes.ensures.items
    ∙ ap (λ (bs : List ℕ). bs ++ print c.args.writer.tokens) c.requires in
    let valid : IsUtf8 c.as_slice.result.now = subst IsUtf8 (sym bytes) c.into_inner-bytes.ensures.utf8 in
    is_ok_where _ _ c.from_utf8.result valid c.from_utf8.ensures.cases

pub returns : goal.returns
returns c =
    let start = chars_of c.args.text.now in
    let found = at_ok _ _ c.from_utf8.result c.unwrap.result c.unwrap.ensures c.from_utf8.ensures.cases in
    let bytes = found.0 ∙ c.as_slice.ensures.value ∙ c.into_inner-bytes.ensures.items
    ∙ ap (λ (bs : List ℕ). bs ++ print c.args.writer.tokens) c.requires in
    on_ok_then c.push_escaped.result (λ h. h ∙ ap (λ bs. start ++ flat_map escaped (chars bs)) bytes) c.push_escaped.ensures

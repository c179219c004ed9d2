-- The last line, where it is a border, and where it is none.
use Rattle.tbr_kept_lines.proofs.Common.{◌≡◌, ◌+◌, suc, ◌-◌, ◌<◌, false, if◌then◌else◌, Option, None, Some, List, [], ◌∷◌, ◌++◌, map, take, length, get_or, refl, ap, sym, ◌∙◌, arith, length-append}
use Rattle.tbr_kept_lines.proofs.Common.{Border, RenderLine, Text, Rule, Line, border, line_seen, without_last, last_border}
use Rattle.std.proofs.Common.{is_some}
use Rattle.std.specs.Borrow.{Bor}
use Rattle.std.specs.Prelude.{IsSome, IfSome}
use Rattle.std.proofs.Math.Seq.{take-append_seam}
use Rattle.tbr_kept_lines.specs.LastBorder.{is_rule, is_border, border_in, before_border}

-- the last line decides
last_after : {T : Type 0} (front : List (Line T)) (l : Line T) → last_border (front ++ l ∷ []) ≡ border_in l
last_after [] l = refl
last_after (x ∷ []) l = refl
last_after (x ∷ y ∷ front) l = last_after (y ∷ front) l

front_after : {X : Type 0} (front : List X) (x : X) → without_last (front ++ x ∷ []) ≡ front
front_after front x =
    ap (λ n. take (n - 1) (front ++ x ∷ [])) (length-append front (x ∷ []))
    ∙ ap (λ n. take n (front ++ x ∷ [])) (let n : length front + 1 - 1 ≡ length front = omega arith in n)
    ∙ take-append_seam front (x ∷ [])

module _ {T : Type 0} (ls front : List (Line T)) (b : Border T) (is : ls ≡ front ++ border b ∷ []) where
  pub border_is : last_border ls ≡ Some b
  border_is = ap last_border is ∙ last_after front (border b)

  pub front_is : before_border ls ≡ front
  front_is =
      ap before_border is
      ∙ ap
      (λ (o : Option (Border T)). if is_some o then without_last (front ++ border b ∷ []) else front ++ border b ∷
      []) (last_after front (border b)) ∙ front_after front (border b)

-- no border where the last line in memory is none
pub no_last_border : {T : Type 0} (ls : List (RenderLine T)) (x : RenderLine T) → x ≡ get_or ls (length ls - 1) x → last_border (line_seen x ∷ []) ≡ None → last_border (map line_seen ls) ≡ None
no_last_border [] x is none = refl
no_last_border (l ∷ []) x is none = let same : x ≡ l =
    is ∙ ap (λ n. get_or (l ∷ []) n x) (let zeroth : length (l ∷ []) - 1 ≡ 0 = omega arith in zeroth) in
    ap (λ k. last_border (line_seen k ∷ [])) (sym same) ∙ none
no_last_border (l ∷ m ∷ ls) x is none =
    let next : length (l ∷ m ∷ ls) - 1 ≡ suc (length (m ∷ ls) - 1) = omega arith in
    no_last_border (m ∷ ls) x (is ∙ ap (λ n. get_or (l ∷ m ∷ ls) n x) next) none

-- nor where there is none
pub no_border_there : {T : Type 0} (ls : List (RenderLine T)) (o : Option (Bor (RenderLine T))) → is_border o ≡ false →
    (0 < length ls → IsSome o) → IfSome o (λ x. x.now ≡ get_or ls (length ls - 1) x.now) →
    last_border (map line_seen ls) ≡ None
no_border_there [] o not some found = refl
no_border_there (l ∷ ls) None not some found = let no = some (let more : 0 < length (l ∷ ls) = omega arith in more) in cc
no_border_there (l ∷ ls) (Some x) not some found = no_last_border (l ∷ ls) x.now found (no_rule x.now not)
  where
    no_rule : {T : Type 0} (x : RenderLine T) → is_rule x ≡ false → border_in (line_seen x) ≡ None
    no_rule (Text es) h = refl
    no_rule (Rule b) h = cc

-- Lines on which a text of stretches and spaces goes on from an open line.
use Rattle.tbr_model.proofs.Common.{◌≡◌, ℕ, zero, suc, ◌+◌, ◌<◌, ◌≤◌, ◌⊎◌, inl, inr, List, [], ◌∷◌, ◌++◌, replicate, length, refl, ap, sym, ◌∙◌, arith, append_assoc, append-nil, subst, ne_eqb, Each}
use Rattle.tbr_model.proofs.Common.{eqb_tells, replicate-append-replicate, cases_lt, IsSpaces, BeginsWithNonBlank, EndsWithNonBlank, first_stretch, BeginsAfter, IsWrapped}

-- characters that are neither spaces nor before them
abbrev pub AreNonBlank : List ℕ → Type 0
AreNonBlank cs = Each (λ c. 33 ≤ c) cs

pub ends_nonblank : (cs : List ℕ) → AreNonBlank cs → 0 < length cs → EndsWithNonBlank cs
ends_nonblank [] h some = absurd (omega (arith, some))
ends_nonblank (c ∷ []) h some = (λ e. omega (arith, h.0, e), λ e. omega (arith, h.0, e))
ends_nonblank (c ∷ d ∷ cs) h some = ends_nonblank (d ∷ cs) h.1 (omega arith)

pub ends_append : (xs ys : List ℕ) → EndsWithNonBlank ys → EndsWithNonBlank (xs ++ ys)
ends_append [] ys h = h
ends_append (x ∷ []) [] h = absurd h
ends_append (x ∷ []) (y ∷ ys) h = h
ends_append (x ∷ z ∷ xs) ys h = ends_append (z ∷ xs) ys h

-- a text of non-blanks and what is after it begin with all of it
pub stretch_front : (cs ds : List ℕ) → AreNonBlank cs → length cs ≤ length (first_stretch (cs ++ ds))
stretch_front [] ds h = omega arith
stretch_front (c ∷ cs) ds h = grind (arith, ne_eqb, stretch_front cs ds h.1)

pub stretch_all : (cs : List ℕ) → AreNonBlank cs → first_stretch cs ≡ cs
stretch_all [] h = refl
stretch_all (c ∷ cs) h = grind (arith, ne_eqb, stretch_all cs h.1)

-- ---- an open line

-- On from an open line of these characters, this text is these lines.
pub record GoesOnFrom (width : ℕ) (line cs : List ℕ) (ls : List (List ℕ)) : Type 0 where
  pub more : List ℕ
  pub rest : List ℕ
  pub others : List (List ℕ)
  pub lines : ls ≡ (line ++ more) ∷ others
  pub text : cs ≡ more ++ rest
  pub ends : EndsWithNonBlank (line ++ more)
  pub fits : length (line ++ more) ≤ width
  pub wrapped : IsWrapped width (line ++ more) rest others

-- the same where the open line may be empty, as where a hard line begins
abbrev pub GoesOn : ℕ → List ℕ → List ℕ → List (List ℕ) → Type 0
GoesOn width [] text ls = IsWrapped width [] text ls
GoesOn width (c ∷ cs) text ls = GoesOnFrom width (c ∷ cs) text ls

pub goes_on_some : (width : ℕ) (line text : List ℕ) (ls : List (List ℕ)) → 0 < length line → GoesOn width line text ls → GoesOnFrom width line text ls
goes_on_some width [] text ls some h = absurd (omega (arith, some))
goes_on_some width (c ∷ line) text ls some h = h

-- the line goes on with a text
abbrev pub longer : (width : ℕ) (line w text : List ℕ) (ls : List (List ℕ)) → GoesOnFrom width (line ++ w) text ls → GoesOnFrom width line (w ++ text) ls
longer width line w text ls h =
    let same : (line ++ w) ++ h.more ≡ line ++ (w ++ h.more) = append_assoc line w h.more in
    record {
      more = w ++ h.more;
      rest = h.rest;
      others = h.others;
      lines = h.lines ∙ ap (λ (l : List ℕ). l ∷ h.others) same;
      text = ap (λ (cs : List ℕ). w ++ cs) h.text ∙ sym (append_assoc w h.more h.rest);
      ends = subst EndsWithNonBlank same h.ends;
      fits = subst (λ (l : List ℕ). length l ≤ width) same h.fits;
      wrapped = subst (λ (l : List ℕ). IsWrapped width l h.rest h.others) same h.wrapped;
    }

-- the line is ended
abbrev pub ended : (width : ℕ) (line text : List ℕ) (ls : List (List ℕ)) → EndsWithNonBlank line → length line ≤ width → IsWrapped width line text ls → GoesOnFrom width line text (line ∷ ls)
ended width line text ls ends fits wrapped =
    let same : line ≡ line ++ [] = sym (append-nil line) in
    record {
      more = [];
      rest = text;
      others = ls;
      lines = ap (λ (l : List ℕ). l ∷ ls) same;
      text = refl;
      ends = subst EndsWithNonBlank same ends;
      fits = subst (λ (l : List ℕ). length l ≤ width) same fits;
      wrapped = subst (λ (l : List ℕ). IsWrapped width l text ls) same wrapped;
    }

-- a line begins
pub begun : (width : ℕ) (before text : List ℕ) (ls : List (List ℕ)) (gap : ℕ) (h : GoesOnFrom width [] text ls) →
    BeginsAfter width before gap h.more → IsWrapped width before (replicate gap 32 ++ text) ls
begun width before text ls gap h begins = grind (arith, ℕ)

-- an open line that holds nothing yet, or ends with a non-blank and fits
abbrev pub IsOpen : ℕ → List ℕ → Type 0
IsOpen width cs = (cs ≡ []) ⊎ (EndsWithNonBlank cs × (length cs ≤ width))

-- what goes on from a line with more goes on from the line
pub on_line : (width : ℕ) (line w text : List ℕ) (ls : List (List ℕ)) → GoesOnFrom width (line ++ w) text ls → GoesOn width line (w ++ text) ls
on_line width [] w text ls h = begun width [] (w ++ text) ls 0 (longer width [] w text ls h) (inl (refl, refl))
on_line width (c ∷ line) w text ls h = longer width (c ∷ line) w text ls h

-- what goes on from a line that holds something
pub from_some : (width : ℕ) (line text : List ℕ) (ls : List (List ℕ)) → 0 < length line → GoesOnFrom width line text ls → GoesOn width line text ls
from_some width [] text ls some h = absurd (omega (arith, some))
from_some width (c ∷ line) text ls some h = h

pub from_none : (width : ℕ) (line text : List ℕ) (ls : List (List ℕ)) → line ≡ [] → IsWrapped width [] text ls → GoesOn width line text ls
from_none width line text ls none h = subst (λ (cs : List ℕ). GoesOn width cs text ls) (sym none) h

-- in a text that ends with a non-blank, what is after its first character is nothing, or does
pub last_of : (c : ℕ) (cs : List ℕ) → EndsWithNonBlank (c ∷ cs) → (cs ≡ []) ⊎ EndsWithNonBlank cs
last_of c [] h = inl refl
last_of c (d ∷ cs) h = inr h

-- ---- where lines begin

begins_nonblank : (cs : List ℕ) → 0 < length (first_stretch cs) → BeginsWithNonBlank cs
begins_nonblank [] h = absurd (omega (arith, h))
begins_nonblank (c ∷ cs) h = grind (arith, eqb_tells)

-- A word that doesn't fit after the line before begins a line after dropped spaces, if that reaches all of it that a
-- line has columns for.
pub begins_after : (width : ℕ) → 0 < width → (before : List ℕ) (gap : ℕ) (w more : List ℕ) → 0 < length w → width < length before + (gap + length w) → 0 < gap →
    ((k : ℕ) → k ≤ width → k ≤ length w → k ≤ length (first_stretch more)) → BeginsAfter width before gap more
begins_after width some before gap w more long over apart reach = grind (arith, begins_nonblank, cases_lt)

pub first_begins : (width : ℕ) → 0 < width → (gap : ℕ) (w more : List ℕ) → 0 < length w → width < gap + length w →
    ((k : ℕ) → k ≤ width → k ≤ length w → k ≤ length (first_stretch more)) → BeginsAfter width [] gap more
first_begins width some zero w more long over reach = inl (refl, refl)
first_begins width some (suc gap) w more long over reach = begins_after width some [] (suc gap) w more long (omega (arith, over)) (omega arith) reach

pub spaces_alone : (n : ℕ) → IsSpaces (replicate n 32 ++ [])
spaces_alone zero = tt
spaces_alone (suc n) = (refl, spaces_alone n)

pub one_more_space : (n : ℕ) (cs : List ℕ) → replicate (n + 1) 32 ++ cs ≡ replicate n 32 ++ (32 ∷ cs)
one_more_space n cs = ap (λ (ds : List ℕ). ds ++ cs) (sym (replicate-append-replicate n 1 32)) ∙ append_assoc (replicate n 32) (32 ∷ []) cs

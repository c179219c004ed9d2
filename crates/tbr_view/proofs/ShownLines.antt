-- Lines that are shown one after another.
use Rattle.tbr_view.proofs.Common.{◌≡◌, ℕ, Bool, List, [], ◌∷◌, ◌++◌, refl, sym, ap, subst, ◌∙◌, append_assoc, Option, false, Vec, lines_of, AreShown, ShowsLine}
use Rattle.std.proofs.Common.{append-nil}
use Rattle.std.proofs.lemmas.Bool.{false≢true}
use Rattle.std.specs.Option.{unwrap_or}
use Rattle.tbr_border.specs.declared.RenderLine.{RenderLine}
use Rattle.tbr_decor.specs.declared.annotation.RichAnnotation.{RichAnnotation}
use Rattle.tbr_commands.specs.declared.opening.Decorator.{Decorator}
use Rattle.tbr_commands.specs.declared.opening.Opening.{Opening}
use Rattle.tbr_view.specs.declared.script.Settings.{Settings}
use Rattle.tbr_view.specs.declared.script.Format.{Format}
use Rattle.tbr_view.specs.declared.script.Format.TheVariants.{Text, Bare, Ansi, Ndjson, Html}
use Rattle.tbr_view.specs.Script.{Begins}
use Rattle.tbr_annotations.specs.Written.{IsWrittenOut}
use Rattle.tbr_view.specs.Shown.{ShowsAnnotated, ShowsUnder, IsShown, opening_in, is_text}

-- one line more
pub one_more_shown : {L : Type 0} (Shows : L → List ℕ → Type 0) (lines : List L) (line : L) (cs more : List ℕ) → AreShown Shows lines cs → Shows line more →
    AreShown Shows (lines ++ line ∷ []) (cs ++ more)
one_more_shown Shows [] line cs more h here = (more, [], here, refl, ap (λ (xs : List ℕ). xs ++ more) h ∙ sym (append-nil more))
one_more_shown Shows (l ∷ lines) line cs more h here =
    (h.0, h.1 ++ more, h.2, one_more_shown Shows lines line h.1 more h.3 here, ap (λ (xs : List ℕ). xs ++ more) h.4 ∙ append_assoc h.0 h.1 more)

-- in another format than text
module _ {A M : Type 0} (meaning : A → M) (eq : A → A → Bool) (rich : List A → List RichAnnotation) (columns : ℕ → Option ℕ) where
  pub shown_in : (format : Format) (line : RenderLine (List M)) (out : RenderLine (Vec A)) (cs : List ℕ) → is_text format ≡ false →
      IsWrittenOut meaning eq line out → ShowsAnnotated eq rich columns format out cs → ShowsLine meaning eq rich columns format line cs
  shown_in Text line out cs other written shows = absurd (false≢true (sym other))
  shown_in Bare line out cs other written shows = (out, written, shows)
  shown_in Ansi line out cs other written shows = (out, written, shows)
  shown_in Ndjson line out cs other written shows = (out, written, shows)
  shown_in Html line out cs other written shows = (out, written, shows)

-- under the decorator that is set, or that of the script
pub shown_script : (columns : ℕ → Option ℕ) (script : List ℕ) (settings : Settings) (cs : List ℕ) (opening placed : Opening) (number : ℕ) (rest : List ℕ) (decorator : Decorator) →
    Begins script opening number rest → placed ≡ opening_in settings opening → placed.decorator ≡ decorator →
    ShowsUnder columns decorator placed (lines_of rest) settings.format cs → IsShown columns script settings cs
shown_script columns script settings cs opening placed number rest decorator begins is under shows =
    let same = ap (λ (o : Opening). o.decorator) (sym is) ∙ under in
    record {
      opening = opening;
      number = number;
      rest = rest;
      begins = begins;
      shows = subst (λ (o : Opening). ShowsUnder columns (unwrap_or settings.decorator opening.decorator) o (lines_of rest) settings.format cs) is
          (subst (λ (d : Decorator). ShowsUnder columns d placed (lines_of rest) settings.format cs) (sym same) shows);
    }

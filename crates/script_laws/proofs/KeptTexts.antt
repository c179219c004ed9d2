-- What came to a renderer of a script is in the lines of its text.
use Rattle.script_laws.proofs.Common.{◌≡◌, ◌<◌, ◌+◌, inl, ℕ, Option, Some, Ok, List, [], ◌∷◌, ◌++◌, length, append-nil, ◌≢◌, refl, ap, sym, subst, arith, Entry, Decoration, Renderer, acts_come}
use Rattle.script_laws.proofs.Common.{IsWrittenSoFar, NothingOverhangs, top_of, Command, Progress, after_line, IsLed, EndsWhole, KeepsAll, TextKeeps, rendered_on, stack_calls, link_targets, AskFor}
use Rattle.script_laws.proofs.Common.{LinesDo, Opening, started}
use Rattle.text_block_renderer.proofs.TakenLines.{brought_within}
use Rattle.script_laws.proofs.StackCalls.{lines_step, lines_end}
use Rattle.text_block_renderer.proofs.LinkNumbers.{targets_come}
use Rattle.script_laws.proofs.ShownTexts.{led_writes}
use Rattle.script_laws.proofs.LedRenderers.{led_sound, line_led, at_end, closed_led, started_led}
use Rattle.script_laws.proofs.CameToRenderers.{HasStill, IsIn, only_on_stack, only_one, first_has, gives_on, line_has}
use Rattle.tbr_runner.proofs.ScriptLevels.{first_led, Wait, line_waits, line_counts}
use Rattle.tbr_runner.proofs.Walks.{Meets, At}

module _ {D M : Type 0} (columns : ℕ → Option ℕ) (decoration : Decoration D M) where
  pub line_keeps_all : (p next : Progress D M (List M)) (number : ℕ) (line : List ℕ) → KeepsAll columns decoration p → EndsWhole (line ∷ []) p →
      after_line columns decoration number line p ≡ Ok next → KeepsAll columns decoration next
  line_keeps_all p next number line keeps whole makes =
      let there =
      subst (Meets (Unit {0}) (At columns decoration (Wait columns decoration NothingOverhangs))) makes
      (line_waits columns decoration NothingOverhangs p number line
      (λ command is ends. whole (command, is, ends)) keeps.waiting keeps.below) in
      record {
        renderers = line_led columns decoration p next number line keeps.renderers makes;
        levels =
            line_counts columns decoration p next number line keeps.levels makes;
        waiting = there.waiting;
        below = there.below;
      }

  pub started_keeps_all : columns 32 ≡ Some 1 → (opening : Opening) (decorator : D) → 0 < opening.width → opening.options.wrap_width ≢ Some 0 →
      KeepsAll columns decoration (started {M = M} opening decorator)
  started_keeps_all space opening decorator wide some = record { renderers = started_led columns decoration space opening decorator wide some; levels = refl; waiting = tt; below = tt }

  -- ---- a script's lines

  module _ (first : Renderer D M (List M)) (es : List (Entry (List M))) where
    lines_keep : (number : ℕ) (lines : List (List ℕ)) (p q : Progress D M (List M)) → KeepsAll columns decoration p →
        ((front back : List (List ℕ)) (there : Progress D M (List M)) → lines ≡ front ++ back → LinesDo columns decoration p number front there → EndsWhole back there) →
        LinesDo columns decoration p number lines q → IsIn columns decoration first es p → KeepsAll columns decoration q × IsIn columns decoration first es q
    lines_keep number [] p q keeps at same h = (subst (KeepsAll columns decoration) (sym same) keeps, subst (IsIn columns decoration first es) (sym same) h)
    lines_keep number (line ∷ lines) p q keeps at (next, does, lead) h =
        let whole = at [] (line ∷ lines) p refl refl in
        lines_keep (number + 1) lines next q (line_keeps_all p next number line keeps whole does)
        (λ front back there are led. at (line ∷ front) back there (ap (λ ls. line ∷ ls) are) (next, does, led)) lead
        (line_has columns decoration first es number line p next keeps whole does h)

  -- what came to the renderer on top, and later, is in the lines of the text
  pub text_keeps : (p : Progress D M (List M)) (number : ℕ) (lines : List (List ℕ)) (bytes : List ℕ) (r : Renderer D M (List M)) → KeepsAll columns decoration p →
      ((front back : List (List ℕ)) (there : Progress D M (List M)) → lines ≡ front ++ back → LinesDo columns decoration p number front there → EndsWhole back there) →
      top_of p.stack ≡ Some r → (led : IsLed columns decoration r) → rendered_on columns decoration number lines p ≡ Ok bytes →
      (commands : List Command) × AskFor lines commands × TextKeeps columns decoration (p.stack.links ++ link_targets commands) bytes (acts_come columns decoration led.acts led.first [])
  text_keeps p number lines bytes r keeps at is_top led gives =
      let es = acts_come columns decoration led.acts led.first [] in
      let end = lines_end columns decoration p number lines bytes gives in
      let there = end.there in
      let still : HasStill columns decoration led.first es r = record { acts = led.acts; more = []; leads = led.leads; came = append-nil es } in
      let (kept, has) = lines_keep led.first es number lines p there keeps at end.lead (inl (first_has columns decoration led.first es p.stack.levels r is_top still)) in
      let (top, is, closed_is, none_open, none_wait) = at_end columns decoration end.last there bytes end.ends in
      let led_there = kept.renderers in
      let led_last = first_led columns decoration (IsLed columns decoration) there.stack.levels top is led_there.on_stack in
      let (of, gives_it) = closed_led columns decoration there.stack.links top bytes led_last closed_is in
      let none_left = at lines [] there (sym (append-nil lines)) end.lead tt top is in
      let gave = gives_on columns decoration led.first es top _ led_last.live none_left gives_it
      (only_one columns decoration led.first es there.stack.levels top is
      (omega (arith, kept.levels, ap length none_open))
      (only_on_stack columns decoration led.first es there none_open none_wait has)) in
      let origin : IsLed columns decoration gave.origin = record { first = led.first; fresh = led.fresh; sound = led.sound; acts = gave.still.acts; leads = gave.still.leads; live = gave.live } in
      let so_far = subst (IsWrittenSoFar columns gave.origin) (sym gave.still.came) (led_writes columns decoration gave.origin origin) in
      let steps = lines_step columns decoration number lines end.commands p there end.ask end.lead in
      let same = targets_come columns decoration (stack_calls end.commands) p.stack there.stack steps in
      let kept_text : TextKeeps columns decoration there.stack.links bytes es = record {
        of = of;
        more = gave.still.more;
        all =
            brought_within columns decoration gave.depth gave.origin (es ++ gave.still.more) gave.inside
            (let m = of.renderer in m.lines) (led_sound columns decoration gave.origin origin) so_far gave.gives gave.chain;
      } in
      (end.commands, end.ask, subst (λ targets. TextKeeps columns decoration targets bytes es) same kept_text)

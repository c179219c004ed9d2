-- The lines of a renderer that a script fills show what came to it.
use Rattle.script_laws.proofs.Common.{◌≡◌, ℕ, Option, None, List, [], refl, ap, sym, subst, Entry, Decoration, Renderer, open_run, Shows, IsWrittenSoFar, acts_come, IsFresh, IsLed}
use Rattle.text_block_renderer.specs.Drawn.{WithoutDrawnBorders, borders_drawn, DrawNone}
use Rattle.text_block_renderer.specs.MarkersStand.{Stands}
use Rattle.text_block_renderer.proofs.DrawnBorders.{holds_of_all}
use Rattle.text_block_renderer.proofs.VisibleCharacters.{acts_show}
use Rattle.text_block_renderer.proofs.BroughtEntries.{new_stands, acts_stand}
use Rattle.text_block_renderer.proofs.WrittenEntries.{acts_write}

module _ {D M : Type 0} (columns : ℕ → Option ℕ) (decoration : Decoration D M) where
  abbrev Top : Type 0
  Top = Renderer D M (List M)

  -- a renderer to which nothing had come
  abbrev emptied : Top → Top
  emptied r = record r { lines = []; block = None; waiting = [] }

  is_emptied : (r : Top) → IsFresh r → emptied r ≡ r
  is_emptied r fresh = λ i. record r { lines = sym fresh.lines i; block = sym fresh.block i; waiting = sym fresh.waiting i }

  abbrev came : (r : Top) → IsLed columns decoration r → List (Entry (List M))
  came r led = acts_come columns decoration led.acts led.first []

  pub led_shows : (r : Top) (led : IsLed columns decoration r) → WithoutDrawnBorders (borders_drawn columns decoration led.acts led.first) (λ q. Shows columns q (came r led)) r
  led_shows r led =
      let borders = borders_drawn columns decoration led.acts led.first in
      let closed : open_run led.first.block ≡ [] = ap open_run led.fresh.block in
      let start =
      subst (λ (q : Top). WithoutDrawnBorders [] (λ t. Shows columns t (open_run q.block)) q)
      (is_emptied led.first led.fresh)
      ([], ([], refl, refl, refl), record { ended = []; shown = tt; whole = refl }) in
      subst (λ es. WithoutDrawnBorders borders (λ q. Shows columns q (acts_come columns decoration led.acts led.first es)) r) closed
      (acts_show columns decoration led.acts led.first r [] [] led.sound led.leads start)

  pub led_stands : (r : Top) (led : IsLed columns decoration r) → WithoutDrawnBorders (borders_drawn columns decoration led.acts led.first) (λ q. Stands columns q (came r led)) r
  led_stands r led =
      let k = new_stands {D = D} {A = M} columns 0 led.first.options led.first.decorator in
      let none : Stands columns (emptied led.first) [] =
      record { ended = k.ended; whole = k.whole; order = k.order; markers = k.markers; waits = k.waits; kept = k.kept; waits_kept = k.waits_kept } in
      let start = subst (λ (q : Top). WithoutDrawnBorders [] (λ t. Stands columns t []) q) (is_emptied led.first led.fresh) ([], ([], refl, refl, refl), none) in
      acts_stand columns decoration led.acts led.first r [] [] led.sound led.leads start

  pub led_undrawn : (r : Top) (led : IsLed columns decoration r) → DrawNone columns decoration led.acts led.first → Shows columns r (came r led) × Stands columns r (came r led)
  led_undrawn r led none = (
    holds_of_all columns decoration (λ q. Shows columns q (came r led)) led.acts led.first r led.leads none (led_shows r led),
    holds_of_all columns decoration (λ q. Stands columns q (came r led)) led.acts led.first r led.leads none (led_stands r led),
  )

  pub led_writes : (r : Top) (led : IsLed columns decoration r) → IsWrittenSoFar columns r (acts_come columns decoration led.acts led.first [])
  led_writes r led =
      let none : IsWrittenSoFar columns (emptied led.first) [] = record { ended = []; whole = refl; shown = []; order = tt; stand = tt } in
      acts_write columns decoration led.acts led.first r [] led.sound led.leads
      (subst (λ (q : Top). IsWrittenSoFar columns q []) (is_emptied led.first led.fresh) none)

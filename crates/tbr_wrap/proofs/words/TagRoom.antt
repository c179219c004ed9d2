-- Where no character changes the tag.
use Rattle.tbr_wrap.proofs.Common.{◌≡◌, ℕ, Bool, true, false, Option, List, inl, inr, refl, sym, ◌∙◌, arith, WhiteSpace, Item, Progress, is_pre, Wrapper, IsAtProgress}
use Rattle.tbr_wrap.specs.Wrapper.{KeepsTag}
use Rattle.tbr_wrap.proofs.words.PlainText.{StaysUnder, elsewhere, fits, goes_on}
use Rattle.tbr_wrap.proofs.words.WordsLaid.{same_held_width}

module _ {A : Type 0} (columns : ℕ → Option ℕ) (eq : A → A → Bool) (b : Wrapper A) (before given : List (List (Item A))) (p : Progress A) (mode : WhiteSpace) where
  pub stays_under : (n : ℕ) → IsAtProgress columns eq b before given p → KeepsTag b mode n → StaysUnder b.lines.width columns mode n p
  stays_under n s h = go (is_pre mode) refl
    where
      go : (t : Bool) → is_pre mode ≡ t → StaysUnder b.lines.width columns mode n p
      go false e = elsewhere e
      go true e =
          elim (h e) [
            | inl room ↦ fits (omega (arith, room, s.word_width, s.lays.holds.width, s.lays.shows.width, same_held_width eq b.space p.space s.space))
            | inr on ↦ goes_on (sym s.continuation_flag ∙ on.0) (sym s.in_continuation ∙ on.1)
          ]

-- Renderers stay sound.
use Rattle.text_block_renderer.proofs.Common.{◌≡◌, ◌≢◌, ◌<◌, ℕ, Option, Some, List, ap, refl, arith, leb-true, done, Decoration, RenderOptions, Renderer, new_renderer, least, IsSound, Call, Steps}
use Rattle.text_block_renderer.proofs.Common.{brought, sub_renderer, run, Act, after_act}
use Rattle.text_block_renderer.proofs.Moves.{any, Frame, sound_alike, path_frame}
use Rattle.text_block_renderer.proofs.CallMoves.{calls_move}
use Rattle.text_block_renderer.proofs.ActParts.{acts_along}

not_zero : (width : ℕ) (wrap : Option ℕ) → 0 < least width wrap → wrap ≢ Some 0
not_zero width wrap h is = grind (arith, leb-true)

module _ {D A : Type 0} (columns : ℕ → Option ℕ) where
  pub new_sound : columns 32 ≡ Some 1 → (width : ℕ) (options : RenderOptions) (decorator : D) → 0 < width →
      options.wrap_width ≢ Some 0 → IsSound columns (new_renderer {D = D} {A = A} {T = List A} width options decorator)
  new_sound space width options decorator wide some = grind arith

  pub inside_sound : (decoration : Decoration D A) (width : ℕ) (r : Renderer D A (List A)) → 0 < width → IsSound columns r → IsSound columns (sub_renderer decoration width r)
  inside_sound decoration width r wide sound = grind (arith, not_zero)

  pub calls_sound : (decoration : Decoration D A) (calls : List (Call (List A))) (r s : Renderer D A (List A)) → IsSound columns r → Steps columns decoration calls r s → IsSound columns s
  calls_sound decoration calls r s sound h =
      let path = calls_move columns any decoration calls r s (brought columns decoration calls r) tt (h, refl) in
      let same = path_frame columns any r s _ _ path in
      sound_alike columns r s (ap (λ (f : Frame A). f.width) same) (ap (λ (f : Frame A). f.options) same) sound

  pub acts_sound : (decoration : Decoration D A) (acts : List (Act A)) (r s : Renderer D A (List A)) → IsSound columns r → run (after_act columns decoration) acts r ≡ done s → IsSound columns s
  acts_sound decoration acts r s sound h = let along = acts_along columns decoration acts r s sound h in sound_alike columns r s along.width along.options sound

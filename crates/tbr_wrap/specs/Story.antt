-- What the changes of a block have led to.
use Rattle.std.specs.Prelude.{ℕ, Bool, Option, List, [], ◌∷◌, map, fold, string_bytes}
use Rattle.tbr_model.specs.declared.white_space.WhiteSpace.{WhiteSpace}
use Rattle.tbr_model.specs.Run.{character, marker_entry}
use Rattle.tbr_model.specs.Rule.{call, entry}
use Rattle.tbr_wrap.specs.Block.{Block, new_block, grown, without_loose, flushed, line_handed_out}
use Rattle.tbr_wrap.specs.declared.run_change.RunChange.{RunChange}
use Rattle.tbr_wrap.specs.declared.run_change.RunChange.TheVariants.{Called, Character, Marker, Taken, Ended, HandedOut}

abbrev pub changed : {A : Type 0} → (ℕ → Option ℕ) → Block A → RunChange × A × A → Block A
changed columns s (Called, a, b) = grown s (call ∷ [])
changed columns s (Character c mode, a, b) = grown s (entry (character c a b mode) ∷ [])
changed columns s (Marker name, a, b) = grown s (entry (marker_entry (string_bytes name)) ∷ [])
changed columns s (Taken, a, b) = without_loose columns s
changed columns s (Ended, a, b) = flushed columns s
changed columns s (HandedOut, a, b) = line_handed_out s

-- a text's characters come
abbrev pub text_changes : {A : Type 0} → List ℕ → A → A → WhiteSpace → List (RunChange × A × A)
text_changes cs a b mode = map (λ c. (Character c mode, a, b)) cs

abbrev pub story : {A : Type 0} → (ℕ → Option ℕ) → ℕ → Bool → Option A → List (RunChange × A × A) → Block A
story columns width may_overflow padding changes = fold (changed columns) (new_block width may_overflow padding) changes

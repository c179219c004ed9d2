-- Texts that are copied out.
use Rattle.std.specs.Prelude.{◌≡◌, ℕ, ◌≤◌, ◌<◌, ◌⊎◌, ◌++◌, Result, Err, MatchResult, List, length, drop}
use Rattle.tbr_c_lines.specs.Status.{code_of}
use Rattle.tbr_c_lines.specs.declared.fault.Fault.{Fault}
use Rattle.tbr_c_lines.specs.declared.fault.Fault.TheVariants as fault

-- A text was copied where the buffer has room for all of it, and else nothing was. Its length is answered.
pub record IsCopied (text before after : List ℕ) (needed status : ℕ) : Type 0 where
  pub needed_is : needed ≡ length text
  pub whole : length text ≤ length before → (status ≡ 0) × (after ≡ text ++ drop (length text) before)
  pub small : length before < length text → (status ≡ 14) × (after ≡ before)

-- A text is copied, or the status of why there is none is answered, and neither buffer nor length changes.
abbrev pub Copies : Result (List ℕ) Fault → List ℕ → List ℕ → ℕ → ℕ → ℕ → Type 0
Copies answer before after old needed status =
    MatchResult answer (λ text. IsCopied text before after needed status)
    (λ f. (after ≡ before) × (needed ≡ old) × (status ≡ code_of f))

-- The same of a text that takes memory, which may be refused.
abbrev pub CopiesMade : Result (List ℕ) Fault → List ℕ → List ℕ → ℕ → ℕ → ℕ → Type 0
CopiesMade answer before after old needed status =
    Copies answer before after old needed status ⊎ Copies (Err fault.OutOfMemory) before after old needed status

-- Prefixes of headings.
use Rattle.std.specs.Prelude.{ℕ, Bool, true, false, List, []}
use Rattle.tbr_decor.specs.Plain.{header_text}

-- as many number signs as the level and a space, if headings are marked, and else nothing
abbrev pub marks : Bool → ℕ → List ℕ
marks true level = header_text level
marks false level = []

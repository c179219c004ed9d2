-- Small scripts for a block, and what it makes of them.
use Rattle.std.specs.Prelude.{ℕ, ◌==◌, ◌||◌, ◌&&◌, if◌then◌else◌, Bool, true, false, nat_le, Option, Some, None, List, [], ◌∷◌, ◌++◌, map}
use Rattle.tbr_model.specs.declared.white_space.WhiteSpace.{WhiteSpace}
use Rattle.tbr_model.specs.declared.white_space.WhiteSpace.TheVariants.{Normal}
use Rattle.tbr_model.specs.Width.{stroke}
use Rattle.tbr_model.specs.Codes.{zero_width_space}
use Rattle.tbr_model.specs.Run.{Item, glyph}
use Rattle.tbr_tagged.specs.declared.error.Error.{Error}
use Rattle.tbr_tagged.specs.Outcome.{Outcome, done, refused}
use Rattle.tbr_wrap.specs.Block.{Block, new_block, loose, after_text, after_marker, after_flush, after_taking}

-- a Chinese character, and a space that is as wide
abbrev pub wide_character : ℕ
wide_character = 0x6F22

abbrev pub wide_space : ℕ
wide_space = 0x3000

-- The columns of printable ASCII, and of some other characters. Two are wide, and one of these is a space. A stroke and
-- a break point take none, and at one space no line breaks.
abbrev pub example_columns : ℕ → Option ℕ
example_columns c =
    if c == wide_character || c == wide_space then Some 2
    else if c == stroke || c == zero_width_space then Some 0
    else if nat_le 32 c then Some 1
    else None

-- a call
pub data Call (A : Type 0) : Type 0 where
  -- a text in a mode, under its main and its continuation annotation
  text : WhiteSpace → A → A → List ℕ → Call A
  mark : List ℕ → Call A
  flush : Call A
  -- the loose markers are taken
  take : Call A

abbrev pub after_call : {A : Type 0} → (ℕ → Option ℕ) → Call A → Block A → Outcome (Block A)
after_call columns (text mode a b cs) s = after_text columns cs a b mode s
after_call columns (mark name) s = after_marker name s
after_call columns flush s = after_flush columns s
after_call columns take s = after_taking columns s

-- calls one after another; the first that refuses is the last
abbrev pub after_calls : {A : Type 0} → (ℕ → Option ℕ) → Outcome (Block A) → List (Call A) → Outcome (Block A)
after_calls columns o [] = o
after_calls columns (refused e) (c ∷ cs) = refused e
after_calls columns (done s) (c ∷ cs) = after_calls columns (after_call columns c s) cs

-- what calls make of a new block
abbrev pub made : {A : Type 0} → (ℕ → Option ℕ) → ℕ → Bool → List (Call A) → Outcome (Block A)
made columns width may_overflow cs = after_calls columns (done (new_block width may_overflow None)) cs

-- the lines of earlier runs, or the refusal
abbrev pub lines_of : {A : Type 0} → Outcome (Block A) → Outcome (List (List (Item A)))
lines_of (done s) = done s.ended
lines_of (refused e) = refused e

-- the lines that calls and a flush after them give, in a block of so many columns
abbrev pub lines_in : {A : Type 0} → ℕ → List (Call A) → Outcome (List (List (Item A)))
lines_in width cs = lines_of (made example_columns width false (cs ++ flush ∷ []))

-- the same where a line may be wider
abbrev pub overflowing_lines_in : {A : Type 0} → ℕ → List (Call A) → Outcome (List (List (Item A)))
overflowing_lines_in width cs = lines_of (made example_columns width true (cs ++ flush ∷ []))

-- the markers that can be taken, or the refusal
abbrev pub loose_of : {A : Type 0} → Outcome (Block A) → Outcome (List (List ℕ))
loose_of (done s) = done (loose example_columns s)
loose_of (refused e) = refused e

-- a block that has refused
abbrev pub failed : {A : Type 0} → Error → Block A → Block A
failed e s = record s { failure = Some e }

-- characters under one annotation
abbrev pub line : {A : Type 0} → A → List ℕ → List (Item A)
line a cs = map (λ c. glyph c a) cs

-- ---- many texts in many widths

abbrev pub is_done : {X : Type 0} → Outcome X → Bool
is_done (done x) = true
is_done (refused e) = false

-- no text refuses in a block of so many columns
abbrev pub none_refuses_in : {A : Type 0} → A → ℕ → List (List ℕ) → Bool
none_refuses_in a width [] = true
none_refuses_in a width (cs ∷ css) =
    is_done (lines_in width (text Normal a a cs ∷ [])) && none_refuses_in a width css

-- nor in any of these
abbrev pub none_refuses : {A : Type 0} → A → List ℕ → List (List ℕ) → Bool
none_refuses a [] css = true
none_refuses a (width ∷ widths) css = none_refuses_in a width css && none_refuses a widths css

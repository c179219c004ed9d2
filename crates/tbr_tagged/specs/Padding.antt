-- Lines with spaces in front and after.
use Rattle.std.specs.Prelude.{ℕ, suc, zero, ◌-◌, ◌/◌, ◌++◌, Bool, Option, List, replicate}
use Rattle.tbr_model.specs.Run.{Item}
use Rattle.tbr_model.specs.Codes.{space_character}
use Rattle.tbr_tagged.specs.declared.padding.CellAlign.{CellAlign}
use Rattle.tbr_tagged.specs.declared.padding.CellAlign.TheVariants.{Left, Right, Centre}
use Rattle.tbr_tagged.specs.Elements.{Element, text_items, line_width, push_text, insert_text}

abbrev pub spaces : ℕ → List ℕ
spaces n = replicate n space_character

-- the columns that a line lacks to a width
abbrev pub columns_missing : {A : Type 0} → (ℕ → Option ℕ) → ℕ → List (Element A) → ℕ
columns_missing columns width es = width - line_width columns es

-- how many of the missing columns are in front
abbrev pub columns_in_front : CellAlign → ℕ → ℕ
columns_in_front Left missing = 0
columns_in_front Right missing = missing
columns_in_front Centre missing = missing / 2

-- with spaces in front, where there are any
abbrev pub spaces_before : {A : Type 0} → (A → A → Bool) → List (Element A) → ℕ → A → List (Element A)
spaces_before eq es zero a = es
spaces_before eq es (suc n) a = insert_text eq es (spaces (suc n)) a

-- with spaces in front and after
abbrev pub padded : {A : Type 0} → (A → A → Bool) → List (Element A) → ℕ → ℕ → A → List (Element A)
padded eq es front after a = push_text eq (spaces_before eq es front a) (spaces after) a

-- with the missing columns as spaces, by the alignment
abbrev pub aligned : {A : Type 0} → (A → A → Bool) → CellAlign → List (Element A) → ℕ → A → List (Element A)
aligned eq align es missing a =
    padded eq es (columns_in_front align missing) (missing - columns_in_front align missing) a

-- the items of such a line
abbrev pub aligned_items : {A : Type 0} → CellAlign → List (Item A) → ℕ → A → List (Item A)
aligned_items align is missing a =
    text_items (spaces (columns_in_front align missing)) a ++ is
    ++ text_items (spaces (missing - columns_in_front align missing)) a

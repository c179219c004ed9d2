-- What a block has laid on lines, and how it lays more.
use Rattle.std.specs.Prelude.{ℕ, ◌+◌, nat_le, ◌==◌, if◌then◌else◌, Option, List, [], ◌∷◌, ◌++◌, fold}
use Rattle.tbr_model.specs.Run.{Item, item_width, has_character}

-- The ended lines of the run, the open line, and the columns that this takes.
pub record Laid (A : Type 0) : Type 0 where
  pub done : List (List (Item A))
  pub line : List (Item A)
  pub width : ℕ

abbrev pub nothing_laid : {A : Type 0} → Laid A
nothing_laid = record { done = []; line = []; width = 0 }

-- the open line goes on with items that take n columns
abbrev pub extended : {A : Type 0} → Laid A → List (Item A) → ℕ → Laid A
extended l is n = record { done = l.done; line = l.line ++ is; width = l.width + n }

-- the open line is ended
abbrev pub end_line : {A : Type 0} → Laid A → Laid A
end_line l = record { done = l.done ++ l.line ∷ []; line = []; width = 0 }

-- the open line is ended, if it has a character
abbrev pub end_if_character : {A : Type 0} → Laid A → Laid A
end_if_character l = if has_character l.line then end_line l else l

-- the open line is ended, if it has columns
abbrev pub end_if_columns : {A : Type 0} → Laid A → Laid A
end_if_columns l = if l.width == 0 then l else end_line l

-- An item of a wider word: on the open line where it fits, else on a fresh one. An item that fits no line goes after
-- items of no width, and its line is ended at once.
abbrev pub put_item : {A : Type 0} → (ℕ → Option ℕ) → ℕ → Laid A → Item A → Laid A
put_item columns width l i =
    if nat_le (l.width + item_width columns i) width then extended l (i ∷ []) (item_width columns i)
    else if nat_le (item_width columns i) width then extended (end_line l) (i ∷ []) (item_width columns i)
    else end_line (extended (end_if_columns l) (i ∷ []) (item_width columns i))

-- the items of a word, one by one
abbrev pub put_items : {A : Type 0} → (ℕ → Option ℕ) → ℕ → Laid A → List (Item A) → Laid A
put_items columns width l is = fold (put_item columns width) l is

-- The cells of a border, as sets of arms.
use Rattle.std.specs.Prelude.{ℕ, ◌+◌, ◌≤◌, ◌==◌, ◌||◌, Bool, true, false, if◌then◌else◌, ⊤, List, [], ◌∷◌, map}
use Rattle.tbr_model.specs.Codes.{space_character}
use Rattle.tbr_border.specs.declared.border.cell.BorderSegHoriz.{BorderSegHoriz}
use Rattle.tbr_border.specs.declared.border.cell.Side.{Side as StoredSide}
use Rattle.tbr_border.specs.declared.border.cell.Side.TheVariants.{Above, Below}
use Rattle.tbr_border.specs.declared.border.cell.BorderSegHoriz.TheVariants.{Horiz, JoinAbove, JoinBelow, JoinCross, Vert, HorizVert, JoinLeft, JoinRight, CornerTL, CornerTR, CornerBL, CornerBR}

-- The slash, or lines that reach out of the cell: whether to the left, to the right, up and down.
pub data Cell : Type 0 where
  slash : Cell
  arms : Bool → Bool → Bool → Bool → Cell

abbrev pub cell_of : BorderSegHoriz → Cell
cell_of Horiz = arms true true false false
cell_of JoinAbove = arms true true true false
cell_of JoinBelow = arms true true false true
cell_of JoinCross = arms true true true true
cell_of Vert = arms false false true true
cell_of HorizVert = slash
cell_of JoinLeft = arms true false true true
cell_of JoinRight = arms false true true true
cell_of CornerTL = arms false true false true
cell_of CornerTR = arms true false false true
cell_of CornerBL = arms false true true false
cell_of CornerBR = arms true false true false

-- what is stored of cells, as sets of arms
abbrev pub cells_of : List BorderSegHoriz → List Cell
cells_of stored = map cell_of stored

-- ─, without a join
abbrev pub horizontal : Cell
horizontal = arms true true false false

abbrev pub one_if : Bool → ℕ
one_if b = if b then 1 else 0

-- at least two arms, or the slash
abbrev pub HasTwoArms : Cell → Type 0
HasTwoArms slash = ⊤
HasTwoArms (arms l r u d) = 2 ≤ one_if l + one_if r + one_if u + one_if d

-- ---- joins and chops

-- the side of a border from which a line joins it
pub data Side : Type 0 where
  above : Side
  below : Side

abbrev pub side_of : StoredSide → Side
side_of Above = above
side_of Below = below

-- the arm to that side is added
abbrev pub joined : Side → Cell → Cell
joined side slash = slash
joined above (arms l r u d) = arms l r true d
joined below (arms l r u d) = arms l r u true

-- an arm that is alone is completed by its opposite
abbrev pub completed : Bool → Bool → Bool → Bool → Cell
completed l r u d =
    if one_if l + one_if r + one_if u + one_if d == 1 then arms (l || r) (l || r) (u || d) (u || d)
    else arms l r u d

-- the arm to the left is taken away
abbrev pub chopped_left : Cell → Cell
chopped_left slash = slash
chopped_left (arms l r u d) = completed false r u d

-- and the one to the right
abbrev pub chopped_right : Cell → Cell
chopped_right slash = slash
chopped_right (arms l r u d) = completed l false u d

-- ---- characters

-- ─ ┴ ┬ ┼ │ ┤ ├ ┌ ┐ └ ┘ and the slash; fewer than two arms draw nothing
abbrev pub character : Cell → ℕ
character slash = 0x2F
character (arms true true false false) = 0x2500
character (arms true true true false) = 0x2534
character (arms true true false true) = 0x252C
character (arms true true true true) = 0x253C
character (arms false false true true) = 0x2502
character (arms true false true true) = 0x2524
character (arms false true true true) = 0x251C
character (arms false true false true) = 0x250C
character (arms true false false true) = 0x2510
character (arms false true true false) = 0x2514
character (arms true false true false) = 0x2518
character (arms l r u d) = space_character

abbrev pub is_among : ℕ → List ℕ → Bool
is_among c [] = false
is_among c (d ∷ ds) = (c == d) || is_among c ds

-- the cells that join a border above or below them when their border is merged into it: ┴ ┬ ┼ ┌ ┐ from above, ┴ ┬ ┼ └ ┘
-- from below
abbrev pub merges : Side → Cell → Bool
merges above c = is_among (character c) (0x2534 ∷ 0x252C ∷ 0x253C ∷ 0x250C ∷ 0x2510 ∷ [])
merges below c = is_among (character c) (0x2534 ∷ 0x252C ∷ 0x253C ∷ 0x2514 ∷ 0x2518 ∷ [])

-- what is above a cell: │ above ┴ ┼ └ ┘, else a space
abbrev pub line_above : Cell → ℕ
line_above c = if is_among (character c) (0x2534 ∷ 0x253C ∷ 0x2514 ∷ 0x2518 ∷ []) then 0x2502 else space_character

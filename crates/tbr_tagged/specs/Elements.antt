-- The elements of a tagged line, the items that they mean, and equality up to the tags' own.
use Rattle.std.specs.Prelude.{◌≡◌, ℕ, Bool, true, false, if◌then◌else◌, ⊤, Option, Some, None, List, [], ◌∷◌, ◌++◌, map, flat_map}
use Rattle.std.specs.List.{AllZip}
use Rattle.tbr_model.specs.Run.{Item, glyph, marker, items_width}

-- Text under one tag, as its characters, or a marker by its name.
pub data Element (A : Type 0) : Type 0 where
  piece : List ℕ → A → Element A
  marker_element : List ℕ → Element A

-- the items of a text under a tag
abbrev pub text_items : {A : Type 0} → List ℕ → A → List (Item A)
text_items cs a = map (λ c. glyph c a) cs

-- an element's items
abbrev pub element_items : {A : Type 0} → Element A → List (Item A)
element_items (piece cs a) = map (λ c. glyph c a) cs
element_items (marker_element name) = marker name ∷ []

-- the columns that an element takes
abbrev pub element_width : {A : Type 0} → (ℕ → Option ℕ) → Element A → ℕ
element_width columns e = items_width columns (element_items e)

-- a line's items
abbrev pub items_of : {A : Type 0} → List (Element A) → List (Item A)
items_of es = flat_map element_items es

-- the columns that a line takes
abbrev pub line_width : {A : Type 0} → (ℕ → Option ℕ) → List (Element A) → ℕ
line_width columns es = items_width columns (items_of es)

-- an element's characters; a marker has none
abbrev pub element_characters : {A : Type 0} → Element A → List ℕ
element_characters (piece cs a) = cs
element_characters (marker_element name) = []

-- a line's characters
abbrev pub characters : {A : Type 0} → List (Element A) → List ℕ
characters es = flat_map element_characters es

-- whether a line has a piece, and not markers alone
abbrev pub has_piece : {A : Type 0} → List (Element A) → Bool
has_piece [] = false
has_piece (piece cs a ∷ es) = true
has_piece (marker_element name ∷ es) = has_piece es

-- ---- equality up to tags

abbrev pub SameItem : {A : Type 0} → (A → A → Bool) → Item A → Item A → Type 0
SameItem eq (glyph c a) (glyph d b) = (c ≡ d) × (eq a b ≡ true)
SameItem eq (marker m) (marker n) = m ≡ n
SameItem eq (glyph c a) (marker n) = ⊥
SameItem eq (marker m) (glyph d b) = ⊥

abbrev pub SameItems : {A : Type 0} → (A → A → Bool) → List (Item A) → List (Item A) → Type 0
SameItems eq = AllZip (SameItem eq)

abbrev pub SameElement : {A : Type 0} → (A → A → Bool) → Element A → Element A → Type 0
SameElement eq (piece cs a) (piece ds b) = (cs ≡ ds) × (eq a b ≡ true)
SameElement eq (marker_element m) (marker_element n) = m ≡ n
SameElement eq (piece cs a) (marker_element n) = ⊥
SameElement eq (marker_element m) (piece ds b) = ⊥

abbrev pub SameElements : {A : Type 0} → (A → A → Bool) → List (Element A) → List (Element A) → Type 0
SameElements eq = AllZip (SameElement eq)

-- ---- text after a line

-- whether an element is a piece under an equal tag
abbrev pub is_piece_under : {A : Type 0} → (A → A → Bool) → Option (Element A) → A → Bool
is_piece_under eq (Some (piece cs b)) a = eq b a
is_piece_under eq (Some (marker_element name)) a = false
is_piece_under eq None a = false

-- a piece with more text
abbrev pub with_text : {A : Type 0} → Element A → List ℕ → Element A
with_text (piece cs b) ds = piece (cs ++ ds) b
with_text (marker_element name) ds = marker_element name

-- the last element with more text
abbrev pub extend_last : {A : Type 0} → List (Element A) → List ℕ → List (Element A)
extend_last [] ds = []
extend_last (e ∷ []) ds = with_text e ds ∷ []
extend_last (e ∷ f ∷ es) ds = e ∷ extend_last (f ∷ es) ds

abbrev pub last_of : {X : Type 0} → List X → Option X
last_of [] = None
last_of (x ∷ []) = Some x
last_of (x ∷ y ∷ xs) = last_of (y ∷ xs)

-- Text after a line: it extends the last piece if that is under an equal tag, and else is a piece of its own. The empty
-- text does nothing.
abbrev pub push_text : {A : Type 0} → (A → A → Bool) → List (Element A) → List ℕ → A → List (Element A)
push_text eq es [] a = es
push_text eq es (c ∷ cs) a =
    if is_piece_under eq (last_of es) a then extend_last es (c ∷ cs)
    else es ++ piece (c ∷ cs) a ∷ []

-- an element after a line
abbrev pub push_element : {A : Type 0} → (A → A → Bool) → List (Element A) → Element A → List (Element A)
push_element eq es (piece cs a) = push_text eq es cs a
push_element eq es (marker_element name) = es ++ marker_element name ∷ []

-- ---- text in front of a line

-- a piece with more text in front
abbrev pub text_before : {A : Type 0} → List ℕ → Element A → Element A
text_before cs (piece ds b) = piece (cs ++ ds) b
text_before cs (marker_element name) = marker_element name

-- the first element with more text in front
abbrev pub extend_first : {A : Type 0} → List ℕ → List (Element A) → List (Element A)
extend_first cs [] = []
extend_first cs (e ∷ es) = text_before cs e ∷ es

-- Text in front of a line: it extends the first piece if that is under an equal tag, and else is a piece of its own,
-- also the empty text.
abbrev pub insert_text : {A : Type 0} → (A → A → Bool) → List (Element A) → List ℕ → A → List (Element A)
insert_text eq [] cs a = piece cs a ∷ []
insert_text eq (e ∷ es) cs a =
    if is_piece_under eq (Some e) a then text_before cs e ∷ es
    else piece cs a ∷ e ∷ es

-- ---- lines as they are given out

abbrev pub HasText : {A : Type 0} → Element A → Type 0
HasText (piece [] a) = ⊥
HasText (piece (c ∷ cs) a) = ⊤
HasText (marker_element name) = ⊤

abbrev pub AreParted : {A : Type 0} → (A → A → Bool) → Element A → Element A → Type 0
AreParted eq (piece cs a) (piece ds b) = eq a b ≡ false
AreParted eq (piece cs a) (marker_element n) = ⊤
AreParted eq (marker_element m) e = ⊤

abbrev pub IsPartedFrom : {A : Type 0} → (A → A → Bool) → Element A → List (Element A) → Type 0
IsPartedFrom eq e [] = ⊤
IsPartedFrom eq e (f ∷ es) = AreParted eq e f

-- Pieces are the longest stretches of characters under equal tags: each has a character, and no two neighbouring ones
-- are under equal tags.
abbrev pub IsMerged : {A : Type 0} → (A → A → Bool) → List (Element A) → Type 0
IsMerged eq [] = ⊤
IsMerged eq (e ∷ es) = HasText e × IsPartedFrom eq e es × IsMerged eq es

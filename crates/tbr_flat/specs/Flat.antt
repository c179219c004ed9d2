-- What a contract sees of characters under tags in one text.
use Rattle.std.specs.Prelude.{◌≡◌, ◌≤◌, ℕ, ◌+◌, ◌-◌, true, List, [], ◌∷◌, ◌++◌, length, take, drop, chars}
use Rattle.std.specs.Str.{is_utf8}
use Rattle.tbr_model.specs.Run.{Item, glyph, marker}

-- The items that are placed on lines and not handed out yet, and those of the current word.
pub record Flat (A : Type 0) : Type 0 where
  pub placed : List (Item A)
  pub word : List (Item A)

-- characters, each under its tag
abbrev pub glyphs : {A : Type 0} → List ℕ → List A → List (Item A)
glyphs [] ts = []
glyphs (c ∷ cs) [] = []
glyphs (c ∷ cs) (t ∷ ts) = glyph c t ∷ glyphs cs ts

-- Characters that are placed, and those of the word, under tags: those that are placed are under the first ones.
abbrev pub flat : {A : Type 0} → List ℕ → List ℕ → List A → Flat A
flat placed word ts = record { placed = glyphs placed ts; word = glyphs word (drop (length placed) ts) }

-- After a place in bytes a text of so many characters is left.
pub record IsLeft (bytes : List ℕ) (start len : ℕ) : Type 0 where
  pub within : start ≤ length bytes
  pub utf8 : is_utf8 (drop start bytes) ≡ true
  pub counts : len ≡ length (chars (drop start bytes))

-- ---- markers among items

-- Markers among characters: how many characters come before each one, after the one before it, its name, and how many
-- come after the last one.
pub record MarkerPlaces : Type 0 where
  pub markers : List (ℕ × List ℕ)
  pub after : ℕ

-- items with the markers among them
abbrev pub marked : {A : Type 0} → List (Item A) → List (ℕ × List ℕ) → List (Item A)
marked is [] = is
marked is ((n, name) ∷ ms) = take n is ++ marker name ∷ marked (drop n is) ms

-- how many characters come before the last marker
abbrev pub before_last : List (ℕ × List ℕ) → ℕ
before_last [] = 0
before_last ((n, name) ∷ ms) = n + before_last ms

-- how many characters the markers are among
abbrev pub covered : MarkerPlaces → ℕ
covered m = before_last m.markers + m.after

-- how many characters come before the first marker, or in all where there is none
abbrev pub before_first : MarkerPlaces → ℕ
before_first m = first m.markers m.after
  where
    first : List (ℕ × List ℕ) → ℕ → ℕ
    first [] k = k
    first ((n, name) ∷ ms) k = n

-- `k` characters fewer before the first marker
abbrev pub shortened : ℕ → MarkerPlaces → MarkerPlaces
shortened k m = go m.markers
  where
    go : List (ℕ × List ℕ) → MarkerPlaces
    go [] = record m { after = m.after - k }
    go ((n, name) ∷ ms) = record m { markers = (n - k, name) ∷ ms }

-- markers after others
abbrev pub followed : MarkerPlaces → MarkerPlaces → MarkerPlaces
followed m n = go n.markers
  where
    go : List (ℕ × List ℕ) → MarkerPlaces
    go [] = record m { after = m.after + n.after }
    go ((k, name) ∷ ms) = record { markers = m.markers ++ (m.after + k, name) ∷ ms; after = n.after }

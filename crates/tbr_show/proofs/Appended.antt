-- What loops append, one part after another.
use Rattle.tbr_show.proofs.Common.{◌≡◌, ℕ, Bool, true, false, not, Result, Ok, Err, List, [], ◌∷◌, ◌++◌, refl, ap, sym, ◌∙◌, map, append_assoc, rules, flat_map, is_control, filter-append, false≢true}
use Rattle.tbr_show.proofs.Common.{YieldsList-end, Element, characters, printable, shown}
use Rattle.std.proofs.Common.{Option, None, Some, append-nil}
use Rattle.std.specs.Prelude.{OnOk, ◌&&◌, if◌then◌else◌}
use Rattle.std.specs.Borrow.{Bor}
use Rattle.std.specs.Iterator.{Yields, YieldsFirstRef}
use Rattle.std.specs.List.{list_all}
use Rattle.std.proofs.lemmas.List.{map_push}
use Rattle.std.proofs.lemmas.List.Concat.{flat_map-append}
use Rattle.std.proofs.lemmas.Iterator.Consumers.{YieldsList-from_first}
use Rattle.tbr_tagged.specs.Elements.{element_characters}
use Rattle.tbr_show.specs.Html.{escaped, between, is_wide_after, shown_from}

-- one more part after those that were appended already
pub one_after : {X : Type 0} (start so_far more text new : List X) → text ≡ start ++ so_far → new ≡ text ++ more → new ≡ start ++ (so_far ++ more)
one_after {X} start so_far more text new is e = e ∙ ap (λ (ys : List X). ys ++ more) is ∙ append_assoc start so_far more

module _ {X Y : Type 0} (f : X → List Y) where
  pub flat_map_push : (xs : List X) (x : X) → flat_map f (xs ++ x ∷ []) ≡ flat_map f xs ++ f x
  flat_map_push xs x = flat_map-append f xs (x ∷ []) ∙ ap (λ (ys : List Y). flat_map f xs ++ ys) (append-nil (f x))

pub printable_shown : (cs : List ℕ) (c : ℕ) → is_control c ≡ false → printable (cs ++ c ∷ []) ≡ printable cs ++ c ∷ []
printable_shown cs c h = filter-append (λ (d : ℕ). not (is_control d)) cs (c ∷ []) ∙ rw h refl

shown_first : (c : ℕ) (cs ds : List ℕ) (shows all : Bool) → (all ≡ true → ds ≡ cs) → (shows && all) ≡ true → (if shows then c ∷ ds else ds) ≡ c ∷ cs
shown_first c cs ds true all f h = ap (λ (xs : List ℕ). c ∷ xs) (f h)
shown_first c cs ds false all f h = absurd (false≢true h)

-- nothing is left out where nothing is a control character
pub printable_all : (cs : List ℕ) → list_all (λ c. not (is_control c)) cs ≡ true → printable cs ≡ cs
printable_all [] h = refl
printable_all (c ∷ cs) h = shown_first c cs (printable cs) (not (is_control c)) (list_all (λ d. not (is_control d)) cs) (printable_all cs) h

-- what is shown of an element
abbrev pub shown_of : {A : Type 0} → Element A → List ℕ
shown_of e = printable (element_characters e)

pub shown_of_each : {A : Type 0} (es : List (Element A)) → flat_map shown_of es ≡ printable (characters es)
shown_of_each [] = refl
shown_of_each (e ∷ es) = search (rules, ℕ, filter-append, not, shown_of_each es)

module _ {X Y Z : Type 0} (f : Y → List Z) (g : X → Y) where
  pub flat_map-map_push : (xs : List X) (x : X) → flat_map f (map g (xs ++ x ∷ [])) ≡ flat_map f (map g xs) ++ f (g x)
  flat_map-map_push xs x = ap (flat_map f) (map_push g xs x) ∙ flat_map_push f (map g xs) (g x)

-- ---- characters in their columns

module _ (columns : ℕ → Option ℕ) where
  -- characters without what closes after them
  abbrev pub shown_open : Bool → List ℕ → List ℕ
  shown_open is_wide [] = []
  shown_open is_wide (c ∷ cs) = between is_wide (columns c) ++ (escaped c ++ shown_open (is_wide_after is_wide (columns c)) cs)

  -- whether an element is open after them
  abbrev pub wide_after : Bool → List ℕ → Bool
  wide_after is_wide [] = is_wide
  wide_after is_wide (c ∷ cs) = wide_after (is_wide_after is_wide (columns c)) cs

  pub shown_closed : (is_wide : Bool) (cs : List ℕ) → shown_from columns is_wide cs ≡ shown_open is_wide cs ++ between (wide_after is_wide cs) (Some 1)
  shown_closed is_wide [] = refl
  shown_closed is_wide (c ∷ cs) =
      let open_there = is_wide_after is_wide (columns c) in
      ap (λ ds. between is_wide (columns c) ++ (escaped c ++ ds)) (shown_closed open_there cs)
      ∙ ap (λ ds. between is_wide (columns c) ++ ds) (sym (append_assoc (escaped c) (shown_open open_there cs) (between (wide_after open_there cs) (Some 1))))
      ∙ sym (append_assoc (between is_wide (columns c)) (escaped c ++ shown_open open_there cs) (between (wide_after open_there cs) (Some 1)))

  pub shown_push : (is_wide : Bool) (cs : List ℕ) (c : ℕ) → shown_open is_wide (cs ++ c ∷ []) ≡ shown_open is_wide cs ++ (between (wide_after is_wide cs) (columns c) ++ escaped c)
  shown_push is_wide [] c = ap (λ ds. between is_wide (columns c) ++ ds) (append-nil (escaped c))
  shown_push is_wide (d ∷ cs) c =
      let open_there = is_wide_after is_wide (columns d) in
      let more = between (wide_after open_there cs) (columns c) ++ escaped c in
      ap (λ ds. between is_wide (columns d) ++ (escaped d ++ ds)) (shown_push open_there cs c)
      ∙ ap (λ ds. between is_wide (columns d) ++ ds) (sym (append_assoc (escaped d) (shown_open open_there cs) more))
      ∙ sym (append_assoc (between is_wide (columns d)) (escaped d ++ shown_open open_there cs) more)

  pub wide_push : (is_wide : Bool) (cs : List ℕ) (c : ℕ) → wide_after is_wide (cs ++ c ∷ []) ≡ is_wide_after (wide_after is_wide cs) (columns c)
  wide_push is_wide [] c = refl
  wide_push is_wide (d ∷ cs) c = wide_push (is_wide_after is_wide (columns d)) cs c

-- ---- lists after a call that may refuse

pub on_ok_then : {T E : Type 0} {P Q : Type 0} (r : Result T E) → (P → Q) → OnOk r P → OnOk r Q
on_ok_then (Ok x) f h = f h
on_ok_then (Err e) f h = h

pub map_both : {X Y Z : Type 0} (g : Y → Z) (h : X → Y) (xs : List X) → map (λ x. g (h x)) xs ≡ map g (map h xs)
map_both g h [] = refl
map_both g h (x ∷ xs) = ap (λ ys. g (h x) ∷ ys) (map_both g h xs)

-- what a walk over elements has given at its end
pub walked : {S E X : Type 0} (elements : S → List E) (view : E → X) (walk : S) (yielded : List (Bor E)) (left : S) → Yields (YieldsFirstRef elements) walk yielded left →
    (r : Option (Bor E)) (last : S) → r ≡ None → YieldsFirstRef elements left r last → map (λ e. view e.now) yielded ≡ map view (elements walk)
walked elements view walk yielded left so_far r last none steps =
    let list = YieldsList-from_first (λ e. e.now) elements {s = walk} (elements walk) refl in
    let end = YieldsList-end list yielded left so_far r last none steps in
    map_both view (λ e. e.now) yielded ∙ ap (map view) end.0

module _ (columns : ℕ → Option ℕ) (start cs : List ℕ) (text : List ℕ) (is_wide : Bool)
    (is : text ≡ start ++ shown_open columns false (printable cs)) (wide : is_wide ≡ wide_after columns false (printable cs)) where
  -- one more character that is shown
  module _ (c : ℕ) (width : Option ℕ) (shows : is_control c ≡ false) (takes : width ≡ columns c) where
    pub shown_more : (mark marked new : List ℕ) → mark ≡ between is_wide width → marked ≡ text ++ mark → new ≡ marked ++ escaped c →
        new ≡ start ++ shown_open columns false (printable (cs ++ c ∷ []))
    shown_more mark marked new m e f = search (rules, one_after, false, append_assoc, shown_push, printable_shown)

    pub wide_more : (after : Bool) → after ≡ is_wide_after is_wide width → after ≡ wide_after columns false (printable (cs ++ c ∷ []))
    wide_more after e = search (rules, false, wide_push, printable_shown)

  -- and the end
  pub shown_all : (mark new : List ℕ) → mark ≡ between is_wide (Some 1) → new ≡ text ++ mark → new ≡ start ++ shown columns (printable cs)
  shown_all mark new m e = search (rules, one_after, false, shown_closed)

-- ---- an object of JSON

-- three tokens, more, and two tokens, one after another
module _ {X : Type 0} (t u1 u2 u3 u4 u5 u6 : List X) (x y z k o : X) (columns : List X)
    (e1 : u1 ≡ t ++ x ∷ []) (e2 : u2 ≡ u1 ++ y ∷ []) (e3 : u3 ≡ u2 ++ z ∷ []) (e4 : u4 ≡ u3 ++ columns) (e5 : u5 ≡ u4 ++ k ∷ [])
    (e6 : u6 ≡ u5 ++ o ∷ []) where
  pub beginning_written : u6 ≡ t ++ (((x ∷ y ∷ z ∷ []) ++ columns) ++ k ∷ o ∷ [])
  beginning_written =
      let head = one_after t (x ∷ y ∷ []) (z ∷ []) u2 u3 (one_after t (x ∷ []) (y ∷ []) u1 u2 e1 e2) e3 in
      let first = one_after t (x ∷ y ∷ z ∷ []) columns u3 u4 head e4 in
      one_after t ((x ∷ y ∷ z ∷ []) ++ columns) (k ∷ o ∷ []) u4 u6 first (one_after u4 (k ∷ []) (o ∷ []) u5 u6 e5 e6)

-- three tokens, more, two tokens, more, and two tokens, one after another
module _ {X : Type 0} (t u1 u2 u3 u4 u5 u6 u7 u8 u9 : List X) (x y z k o p q : X) (columns parts : List X)
    (e1 : u1 ≡ t ++ x ∷ []) (e2 : u2 ≡ u1 ++ y ∷ []) (e3 : u3 ≡ u2 ++ z ∷ []) (e4 : u4 ≡ u3 ++ columns) (e5 : u5 ≡ u4 ++ k ∷ [])
    (e6 : u6 ≡ u5 ++ o ∷ []) (e7 : u7 ≡ u6 ++ parts) (e8 : u8 ≡ u7 ++ p ∷ []) (e9 : u9 ≡ u8 ++ q ∷ []) where
  pub object_written : u9 ≡ t ++ (((x ∷ y ∷ z ∷ []) ++ columns) ++ (k ∷ o ∷ parts) ++ p ∷ q ∷ [])
  object_written =
      let head = one_after t (x ∷ y ∷ []) (z ∷ []) u2 u3 (one_after t (x ∷ []) (y ∷ []) u1 u2 e1 e2) e3 in
      let first = one_after t (x ∷ y ∷ z ∷ []) columns u3 u4 head e4 in
      let middle = one_after u4 (k ∷ o ∷ []) parts u6 u7 (one_after u4 (k ∷ []) (o ∷ []) u5 u6 e5 e6) e7 in
      let most = one_after t ((x ∷ y ∷ z ∷ []) ++ columns) (k ∷ o ∷ parts) u4 u7 first middle in
      one_after t (((x ∷ y ∷ z ∷ []) ++ columns) ++ (k ∷ o ∷ parts)) (p ∷ q ∷ []) u7 u9 most (one_after u7 (p ∷ []) (q ∷ []) u8 u9 e8 e9)

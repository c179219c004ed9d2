-- What the fields hold after a line is ended and characters are placed.
use Rattle.tbr_wrap.proofs.Common.{◌≡◌, ℕ, ◌+◌, ◌≤◌, Bool, Option, Some, List, [], ◌∷◌, ◌++◌, map, length, refl, ap, sym, ◌∙◌, arith, append_assoc, append-nil, length-append, nat_lt, is_some, take}
use Rattle.tbr_wrap.proofs.Common.{drop, IfSome, take_at, drop_at, map-append, SameItems, Item, joined, Laid, extended, end_line, names_in_items, joined-append, LaidLines, HoldsLaid, KeepsLimits}
use Rattle.tbr_wrap.proofs.Common.{LeavesAfterLine, markers-append}
use Rattle.std.proofs.Common.{slice_index_or, option_copied, Bor}

-- the open line is ended, as it was or with more items
pub holds_end : {A : Type 0} (b c : LaidLines A) (before : List (List (Item A))) (l : Laid A) (n : ℕ) →
    HoldsLaid b before l → n ≡ length l.line → c.flat.placed ≡ b.flat.placed → c.ended.items ≡ b.ended.items ++ n ∷ [] →
    c.line_len ≡ 0 → c.line_markers ≡ 0 → c.line_width ≡ 0 →
    HoldsLaid c before (end_line l)
holds_end {A} b c before l n h same flat lines len markers width = grind (arith, append_assoc, joined-append, append-nil, map-append)

-- more items on the open line
pub holds_more : {A : Type 0} (b c : LaidLines A) (before : List (List (Item A))) (l : Laid A) (is : List (Item A))
    (columns : ℕ) → HoldsLaid b before l → c.flat.placed ≡ b.flat.placed ++ is → c.ended ≡ b.ended →
    c.line_len ≡ b.line_len + length is → c.line_markers ≡ b.line_markers + length (names_in_items is) →
    c.line_width ≡ b.line_width + columns →
    HoldsLaid c before (extended l is columns)
holds_more b c before l is columns h placed lines len markers width = grind (arith, append_assoc, length-append, markers-append)

pub keeps_trans : {A : Type 0} (a b c : LaidLines A) → KeepsLimits a b → KeepsLimits b c → KeepsLimits a c
keeps_trans a b c h k = grind arith

-- where no other field changed
pub holds_same : {A : Type 0} (b c : LaidLines A) (before : List (List (Item A))) (l : Laid A) → HoldsLaid b before l →
    c.flat.placed ≡ b.flat.placed → c.ended.items ≡ b.ended.items → c.line_len ≡ b.line_len →
    c.line_markers ≡ b.line_markers → c.line_width ≡ b.line_width → HoldsLaid c before l
holds_same b c before l h flat lines len markers width = record { placed = flat ∙ h.placed; lens = lines ∙ h.lens; len = len ∙ h.len; markers = markers ∙ h.markers; width = width ∙ h.width }

-- ---- the first ended line

pub front_of : (o : Option (Bor ℕ)) (ls : List ℕ) (n : ℕ) → Some n ≡ option_copied o →
    is_some o ≡ nat_lt 0 (length ls) → IfSome o (λ x. x.now ≡ slice_index_or ls 0 x.now) →
    (rest : List ℕ) × (ls ≡ n ∷ rest)
front_of (Some x) (m ∷ ls) n e some at = (ls, (let same : n ≡ x.now = cc in let is : x.now ≡ m = at in cc))
front_of _ _ n e some at = cc

pub first_line : {X : Type 0} (xs : List (List X)) (n : ℕ) (rest : List ℕ) → n ∷ rest ≡ map length xs →
    (is : List X) × (others : List (List X)) × (xs ≡ is ∷ others) × (length is ≡ n) × (map length others ≡ rest)
first_line [] n rest e = cc
first_line (is ∷ xs) n rest e = (is, xs, refl, cc, cc)

pub front_fits : {A : Type 0} (b : LaidLines A) (before : List (List (Item A))) (l : Laid A) (n : ℕ) (rest : List ℕ) → HoldsLaid b before l → b.ended.items ≡ n ∷ rest → n ≤ length b.flat.placed
front_fits b before l n rest h e =
    let w = first_line (before ++ l.done) n rest (sym e ∙ h.lens) in
    omega (arith, ap length h.placed, length-append (joined (before ++ l.done)) l.line, ap (λ ls. length (joined ls)) w.2, length-append w.0 (joined w.1), w.3)

pub taken : {A : Type 0} (eq : A → A → Bool) (b c : LaidLines A) (before : List (List (Item A))) (l : Laid A)
    (is : List (Item A)) (rest : List (List (Item A))) (n : ℕ) (ns : List ℕ) (line : List (Item A)) →
    HoldsLaid b before l → before ++ l.done ≡ is ∷ rest → b.ended.items ≡ n ∷ ns →
    SameItems eq line (take n b.flat.placed) → c.flat ≡ record b.flat { placed = drop n b.flat.placed } →
    c.ended.items ≡ ns → c.line_len ≡ b.line_len → c.line_markers ≡ b.line_markers → c.line_width ≡ b.line_width →
    SameItems eq line is × LeavesAfterLine b c rest l
taken {A} eq b c before l is rest n ns line h first e same flat lens len markers width = grind (arith, append_assoc, take_at, drop_at)

-- one more item, with which the open line is ended
pub holds_wide : {A : Type 0} (b c : LaidLines A) (before : List (List (Item A))) (l : Laid A) (i : Item A)
    (columns n : ℕ) → HoldsLaid b before l → c.flat.placed ≡ b.flat.placed ++ i ∷ [] → n ≡ b.line_len + 1 →
    c.ended.items ≡ b.ended.items ++ n ∷ [] → c.line_len ≡ 0 → c.line_markers ≡ 0 → c.line_width ≡ 0 →
    HoldsLaid c before (end_line (extended l (i ∷ []) columns))
holds_wide {A} b c before l i columns n h placed count lines len markers width = grind (arith, append_assoc, joined-append, append-nil, length-append, map-append)

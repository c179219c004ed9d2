-- The columns of slots in memory.
use Rattle.tbr_model.proofs.Common.{◌≡◌, ℕ, zero, suc, ◌+◌, ◌-◌, ◌<◌, ◌≤◌, List, [], ◌∷◌, length, take, drop, slice_range, get_or, Bool, true, not, ◌&&◌, ◌||◌, ◌↔◌, Option, Some, None, is_some}
use Rattle.tbr_model.proofs.Common.{option_copied, refl, ap, sym, ◌∙◌, arith, take-map, drop-map, take_rest, Each, and_parts, gap_width, rest_width, line_width, MayFollow, IsLegalLine, slot_value}
use Rattle.tbr_model.proofs.Common.{slot_values}
use mir.Val.{bool_byte}
use Rattle.std.specs.Borrow.{Bor}
use Rattle.std.specs.List.{list_all}
use Rattle.tbr_model.specs.declared.slot.Slot.{Slot as StoredSlot}

-- the columns of a slot that is after others
abbrev pub width_after : {A : Type 0} → StoredSlot A → ℕ
width_after s = gap_width (option_copied s.gap) + s.width

pub rest_width_more : {A : Type 0} (xs : List (StoredSlot A)) (i : ℕ) (s : StoredSlot A) → i < length xs → s ≡ get_or xs i s →
    rest_width (slot_values (take (suc i) xs)) ≡ rest_width (slot_values (take i xs)) + width_after s
rest_width_more [] i s h e = absurd (omega arith)
rest_width_more (x ∷ xs) zero s h e = rw (← e) (omega arith)
rest_width_more (x ∷ xs) (suc i) s h e = omega (arith, rest_width_more xs i s (omega arith) e)

pub rest_width_front : {A : Type 0} (xs : List (StoredSlot A)) (i : ℕ) → rest_width (slot_values (take i xs)) ≤ rest_width (slot_values xs)
rest_width_front xs zero = omega arith
rest_width_front [] (suc i) = omega arith
rest_width_front (x ∷ xs) (suc i) = omega (arith, rest_width_front xs i)

pub gap_byte : {A : Type 0} (o : Option (Bor A)) (n : ℕ) (b : Bool) → n ≡ bool_byte b → b ≡ is_some o → n ≡ gap_width (option_copied o)
gap_byte None n b e h = e ∙ ap bool_byte h
gap_byte (Some x) n b e h = e ∙ ap bool_byte h

pub line_width_whole : {A : Type 0} (line others : List (StoredSlot A)) (first : StoredSlot A) → line ≡ first ∷ others →
    line_width (slot_values line) ≡ first.width + rest_width (slot_values others)
line_width_whole {A} line others first e = ap (λ (l : List (StoredSlot A)). line_width (slot_values l)) e

-- a closure's test of each slot, as a fact
pub follow_if_all : {A : Type 0} (xs : List (StoredSlot A)) → list_all (λ s. not (s.begins && s.wider)) xs ≡ true → Each MayFollow (slot_values xs)
follow_if_all [] h = tt
follow_if_all (x ∷ xs) h = let both = and_parts _ _ h in (both.0, follow_if_all xs both.1)

pub all_if_follow : {A : Type 0} (xs : List (StoredSlot A)) → Each MayFollow (slot_values xs) → list_all (λ s. not (s.begins && s.wider)) xs ≡ true
all_if_follow [] h = refl
all_if_follow (x ∷ xs) h = rw (h.0) (all_if_follow xs h.1)

pub legal_line : {A : Type 0} (width : ℕ) (line others : List (StoredSlot A)) (first : StoredSlot A) → line ≡ first ∷ others →
    IsLegalLine width (slot_values line) ↔ ((first.begins || first.wider) ≡ true) × (list_all (λ s. not (s.begins && s.wider)) others ≡ true) × (line_width (slot_values line) ≤ width)
legal_line {A} width line others first e = grind (arith, all_if_follow, follow_if_all)

pub slot_values_part : {A : Type 0} (xs : List (StoredSlot A)) (a b : ℕ) → slot_values (slice_range xs a b) ≡ slice_range (slot_values xs) a b
slot_values_part xs a b = sym (ap (take (b - a)) (drop-map slot_value a xs) ∙ take-map slot_value (b - a) (drop a xs))

pub slot_values_rest : {A : Type 0} (xs : List (StoredSlot A)) (i : ℕ) → slot_values (take (length xs - i) (drop i xs)) ≡ drop i (slot_values xs)
slot_values_rest xs i = ap slot_values (take_rest xs i) ∙ sym (drop-map slot_value i xs)

pub ruleset line_widths = (rest_width_more, rest_width_front, gap_byte, line_width_whole)

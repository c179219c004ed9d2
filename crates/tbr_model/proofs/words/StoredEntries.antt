-- Entries in memory, one after another.
use Rattle.tbr_model.proofs.Common.{◌≡◌, ℕ, ◌+◌, ◌-◌, ◌<◌, ◌||◌, Bool, Some, List, [], ◌∷◌, ◌++◌, length, take, drop, get_or, slice_get, slice_range, refl, ap, sym, ◌∙◌, list_any, take-map, drop-map}
use Rattle.tbr_model.proofs.Common.{take_rest, map-append, or-false, list_any-append, entry_value, entry_values}
use Rattle.std.proofs.Common.{option_map}
use Rattle.std.proofs.lemmas.List.{take_more}
use Rattle.std.proofs.lemmas.Option.{slice_get-map, slice_get_read}
use Rattle.tbr_model.specs.declared.entry.Entry.{Entry as StoredEntry}

pub list_any_more : {X : Type 0} (p : X → Bool) (xs : List X) (x : X) → list_any p (xs ++ x ∷ []) ≡ list_any p xs || p x
list_any_more p xs x = list_any-append p xs (x ∷ []) ∙ ap (λ b. list_any p xs || b) (or-false (p x))

-- the values with one entry more
pub values_more : {A : Type 0} (es : List (StoredEntry A)) (i : ℕ) (e : StoredEntry A) → i < length es → e ≡ get_or es i e →
    entry_values (take (i + 1) es) ≡ entry_values (take i es) ++ entry_value e ∷ []
values_more es i e h k = ap entry_values (take_more es i e h ∙ ap (λ x. take i es ++ x ∷ []) (sym k)) ∙ map-append entry_value (take i es) (e ∷ [])

pub value_at : {A : Type 0} (es : List (StoredEntry A)) (i : ℕ) (e : StoredEntry A) → i < length es → e ≡ get_or es i e → slice_get (entry_values es) i ≡ Some (entry_value e)
value_at es i e h k = slice_get-map entry_value es i ∙ ap (option_map entry_value) (slice_get_read es (length es) i e refl h k)

pub values_front : {A : Type 0} (es : List (StoredEntry A)) (i : ℕ) → entry_values (take i es) ≡ take i (entry_values es)
values_front es i = sym (take-map entry_value i es)

pub values_back : {A : Type 0} (es : List (StoredEntry A)) (i : ℕ) → entry_values (drop i es) ≡ drop i (entry_values es)
values_back es i = sym (drop-map entry_value i es)

pub values_rest : {A : Type 0} (es : List (StoredEntry A)) (i : ℕ) → entry_values (take (length es - i) (drop i es)) ≡ drop i (entry_values es)
values_rest es i = ap entry_values (take_rest es i) ∙ values_back es i

pub values_part : {A : Type 0} (es : List (StoredEntry A)) (a b : ℕ) → entry_values (slice_range es a b) ≡ slice_range (entry_values es) a b
values_part es a b = values_front (drop a es) (b - a) ∙ ap (take (b - a)) (values_back es a)

use Rattle.callers.proofs.Common.{◌≡◌, List, ℕ, map, marker_entry, entry, grown, marker_element, element_of}
use Rattle.callers.proofs.handed_on.hand_on.Given as goal

abbrev pub invariant-loop-marker : goal.invariant-loop-marker
invariant-loop-marker g l =
    (names : List (List ℕ)) × (map element_of l.yielded ≡ map marker_element names)
    × (l.other ≡ grown l.initial.other (map (λ n. entry (marker_entry n)) names))

-- Borders whose tags are mapped, by what follows from each answer.
use Rattle.std.proofs.Common.{List, [], ◌∷◌}
use Rattle.std.specs.List.{AllZip}
use Rattle.tbr_tagged.specs.Elements.{Element, piece, marker_element}
use Rattle.tbr_tagged.specs.Mapped.{MapsElement}
use Rattle.tbr_border.specs.Border.{Border, Hole, MapsHole, MapsBorder}

module _ {A B : Type 0} (gives holds : A → B → Type 0) (is_so : (a : A) (b : B) → gives a b → holds a b) where
  element_is_so : (e : Element A) (f : Element B) → MapsElement gives e f → MapsElement holds e f
  element_is_so (piece cs a) (piece ds b) h = (h.0, is_so a b h.1)
  element_is_so (marker_element m) (marker_element n) h = h
  element_is_so (piece cs a) (marker_element n) h = absurd h
  element_is_so (marker_element m) (piece ds b) h = absurd h

  holes_are_so : (hs : List (Hole A)) (ks : List (Hole B)) → AllZip (MapsHole gives) hs ks → AllZip (MapsHole holds) hs ks
  holes_are_so [] [] h = h
  holes_are_so [] (k ∷ ks) h = absurd h
  holes_are_so (h ∷ hs) [] m = absurd m
  holes_are_so (h ∷ hs) (k ∷ ks) m = ((m.0.0, m.0.1, element_is_so h.element k.element m.0.2), holes_are_so hs ks m.1)

  pub border_is_so : (b : Border A) (c : Border B) → MapsBorder gives b c → MapsBorder holds b c
  border_is_so b c h = record { cells = h.cells; tag = is_so b.tag c.tag h.tag; holes = holes_are_so b.holes c.holes h.holes }

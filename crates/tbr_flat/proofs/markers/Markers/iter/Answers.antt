use Rattle.tbr_flat.proofs.Common.{ℕ, List, map, ap, ◌∙◌, MarkerPlaces, places_of}
use Rattle.tbr_flat.proofs.WalkedItems.{places_seen}
use Rattle.tbr_flat.proofs.markers.Markers.iter.Goals as goal

pub returns : goal.returns
returns c = ap places_of c.iter.ensures.rest ∙ places_seen c.self.inside.markers.items ∙ ap (λ (m : MarkerPlaces). map (λ (x : ℕ × List ℕ). x.0) m.markers) c.self.view_is

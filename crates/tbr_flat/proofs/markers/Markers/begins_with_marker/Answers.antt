use Rattle.tbr_flat.proofs.Common.{◌∙◌, sym, ap, map, drop, string_bytes, MarkerPlaces}
use Rattle.tbr_flat.proofs.MarkerPlaces.{mark_of, map_first, begins_with_marker}
use Rattle.tbr_flat.proofs.markers.Markers.begins_with_marker.Goals as goal

pub returns-in-Some : goal.returns-in-Some
returns-in-Some c =
    let m = c.in-Some.marker.now in let items = c.self.inside.markers.items in
    begins_with_marker c.args.self.now.markers (map mark_of (drop 1 items)) m.before (string_bytes m.name)
    (sym (ap (λ (k : MarkerPlaces). k.markers) c.self.view_is) ∙ map_first mark_of items m c.in-Some.ensures.item.3.0 c.in-Some.ensures.lookup)

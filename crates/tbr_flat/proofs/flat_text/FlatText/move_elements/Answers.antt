use Rattle.tbr_flat.proofs.Common.{◌≡◌, ◌+◌, ◌-◌, ap, refl, arith, append-nil, drop-drop, items_of, IsMerged, same_items, grown_same, Flat}
use Rattle.std.proofs.lemmas.Result.{IfOk-at_ok}
use Rattle.tbr_tagged.proofs.GrownLines.{grown_more}
use Rattle.tbr_flat.proofs.TaggedCharacters.{line_turn}
use Rattle.tbr_flat.proofs.flat_text.FlatText.move_elements.Goals as goal

pub loop-left-init : goal.loop-left-init
loop-left-init g c =
    let none : c.args.items - c.args.items ≡ 0 = omega arith in
    let eq = g.T.PartialEq.eq in
    record {
      within = omega arith;
      items = rw (none, append-nil) (same_items eq g.met.T.Eq.laws (items_of c.args.line.now));
      merged = λ h. h;
      grown = grown_same c.args.line.now;
      rest = rw none refl;
    }

pub loop-left-preserved : goal.loop-left-preserved
loop-left-preserved g c =
    let n = c.in_ok-left.field-0 in let m = c.args.items - c.loop-left.left in let inv = c.loop-left.invariant in
    let k : c.args.items - (c.loop-left.left - n) ≡ m + n = omega (arith, inv.within, c.in_ok-left.ensures.some.1) in
    record {
      within = omega (arith, inv.within);
      items = line_turn g.T.PartialEq.eq g.met.T.Eq.laws (items_of c.args.line.now) (items_of c.loop-left.line) (items_of c.move_element.new.line) c.args.self.now.placed c.loop-left.self.placed m n
          (c.args.items - (c.loop-left.left - n)) k (ap (λ (f : Flat g.row.T.Denot). f.placed) inv.rest) inv.items c.in_ok-left.ensures.items;
      merged = λ h. IfOk-at_ok (λ _. IsMerged g.T.PartialEq.eq c.move_element.new.line) c.in_ok-left.was (c.move_element.ensures.merged (inv.merged h));
      grown = grown_more c.args.line.now c.loop-left.line c.move_element.new.line inv.grown c.move_element.ensures.grown;
      rest = rw (c.in_ok-left.ensures.rest, inv.rest, k, drop-drop) refl;
    }

pub returns-in_err-left-clause-grown : goal.returns-in_err-left-clause-grown
returns-in_err-left-clause-grown g c = grown_more c.args.line.now c.loop-left.line c.move_element.new.line c.loop-left.invariant.grown c.move_element.ensures.grown

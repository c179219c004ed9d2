use Rattle.tbr_flat.proofs.Common.{◌≡◌, ap, ◌∙◌, arith, ◌+◌, take, drop, add-one, [], ◌∷◌, unwrap_or, drop-drop, given_width}
use Rattle.tbr_flat.proofs.WalkedItems.{width_more}
use Rattle.tbr_flat.proofs.placed_items.PlacedItems.next_width.Goals as goal
use Rattle.tbr_flat.proofs.placed_items.PlacedItems.next_width.Goals.{in-Some, in_default}

pub loop-preserved : goal.loop-preserved
loop-preserved g c =
    let n = c.loop.counter in let old = c.args.self.now in let columns = g.W.CharWidth.columns in
    let more : given_width columns (take (n + 1) old) ≡ given_width columns (take n old) + given_width columns (c.next_character.result ∷ []) =
    rw (add-one, c.next_character.ensures.first, c.loop.invariant.rest) (width_more columns old n) in
    record {
      width = elim c.match-next_character.branch [
        | in-Some w ↦ omega (
          arith,
          w.width-is,
          w.saturating_add-width.ensures,
          w.unwrap_or.ensures,
          ap (λ o. unwrap_or o 0) w.width.ensures,
          more,
          ap (λ o. given_width columns (o ∷ [])) w.in-Some.is,
          c.loop.invariant.width,
        )
        | in_default w ↦ omega (arith, w.width-is, more, ap (λ o. given_width columns (o ∷ [])) w.in_default.is, c.loop.invariant.width)
      ];
      rest = c.next_character.ensures.rest ∙ ap (drop 1) c.loop.invariant.rest ∙ drop-drop 1 n old;
    }

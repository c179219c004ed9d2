use Rattle.tbr_flat.proofs.Common.{◌≤◌, length, arith, items_of, grown_same}
use Rattle.tbr_flat.proofs.TaggedCharacters.{placed_len, taken_fits, flat_take, piece_moved}
use Rattle.tbr_flat.proofs.characters.Characters.move_piece.Goals as goal

pub take-requires-clause-within : goal.take-requires-clause-within
take-requires-clause-within g c = omega (arith, placed_len _ _ _ _ c.self.invariant c.self.view_is, c.requires.placed, c.self.invariant)

pub move_under-requires : goal.move_under-requires
move_under-requires g c = omega (arith, placed_len _ _ _ _ c.self.invariant c.self.view_is, c.requires.placed, c.in_ok-count.ensures.count.1)

pub invariant_of-self-in-Ok : goal.invariant_of-self-in-Ok
invariant_of-self-in-Ok g c =
    let within : c.in_ok-count.count ≤ length c.self.inside.placed = omega (arith, placed_len _ _ _ _ c.self.invariant c.self.view_is, c.requires.placed, c.in_ok-count.ensures.count.1) in
    rw (c.in-Ok.ensures.rest, c.in_ok-count.ensures.rest) (taken_fits c.self.inside.placed c.self.inside.word c.self.inside.tags c.in_ok-count.count c.self.invariant within)

pub returns-in-Ok-clause-items : goal.returns-in-Ok-clause-items
returns-in-Ok-clause-items g c =
    let within : c.in_ok-count.count ≤ length c.self.inside.placed = omega (arith, placed_len _ _ _ _ c.self.invariant c.self.view_is, c.requires.placed, c.in_ok-count.ensures.count.1) in
    let t = c.in_ok-count.ensures.tags in
    rw (← c.self.view_is)
    (piece_moved g.T.PartialEq.eq g.met.T.Eq.laws (items_of c.args.line.now) (items_of c.move_under.new.line)
    c.self.inside.placed c.self.inside.tags c.in_ok-count.count t.0 c.in_ok-count.tag t.2 t.1 within
    c.in-Ok.ensures.items)

pub returns-in-Ok-clause-rest : goal.returns-in-Ok-clause-rest
returns-in-Ok-clause-rest g c =
    let within : c.in_ok-count.count ≤ length c.self.inside.placed = omega (arith, placed_len _ _ _ _ c.self.invariant c.self.view_is, c.requires.placed, c.in_ok-count.ensures.count.1) in
    rw (← c.self.view_is, c.in-Ok.ensures.rest, c.in_ok-count.ensures.rest) (flat_take c.self.inside.placed c.self.inside.word c.self.inside.tags c.in_ok-count.count within)

pub returns-in_err-count-clause-grown : goal.returns-in_err-count-clause-grown
returns-in_err-count-clause-grown g c = grown_same c.args.line.now

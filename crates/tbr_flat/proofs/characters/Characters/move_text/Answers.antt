use Rattle.tbr_flat.proofs.Common.{◌≤◌, length, arith, rules}
use Rattle.tbr_flat.proofs.TaggedCharacters.{placed_len, taken_fits, flat_take, taken_characters}
use Rattle.tbr_flat.proofs.characters.Characters.move_text.Goals as goal

pub remove_front-count-requires-clause-within : goal.remove_front-count-requires-clause-within
remove_front-count-requires-clause-within g c = omega (arith, placed_len _ _ _ _ c.self.invariant c.self.view_is, c.requires.placed, c.self.invariant)

pub move_to-requires : goal.move_to-requires
move_to-requires g c = omega (arith, placed_len _ _ _ _ c.self.invariant c.self.view_is, c.requires.placed, c.remove_front-count.ensures.count.1)

pub invariant_of-self : goal.invariant_of-self
invariant_of-self g c =
    let n = c.remove_front-count.result in
    let within : n ≤ length c.self.inside.placed = omega (arith, placed_len _ _ _ _ c.self.invariant c.self.view_is, c.requires.placed, c.remove_front-count.ensures.count.1) in
    rw (c.in-Ok.ensures.rest, c.remove_front-count.ensures.rest) (taken_fits c.self.inside.placed c.self.inside.word c.self.inside.tags n c.self.invariant within)

pub returns-in-Ok-clause-text : goal.returns-in-Ok-clause-text
returns-in-Ok-clause-text g c = search (rules, taken_characters, c.self.view_is, c.in-Ok.ensures.text, c.self.invariant)

pub returns-in-Ok-clause-rest : goal.returns-in-Ok-clause-rest
returns-in-Ok-clause-rest g c =
    let n = c.remove_front-count.result in
    let within : n ≤ length c.self.inside.placed = omega (arith, placed_len _ _ _ _ c.self.invariant c.self.view_is, c.requires.placed, c.remove_front-count.ensures.count.1) in
    rw (← c.self.view_is, c.in-Ok.ensures.rest, c.remove_front-count.ensures.rest) (flat_take c.self.inside.placed c.self.inside.word c.self.inside.tags n within)

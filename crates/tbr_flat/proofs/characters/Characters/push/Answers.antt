use Rattle.tbr_flat.proofs.Common.{◌∷◌, [], refl}
use Rattle.tbr_flat.proofs.TaggedCharacters.{flat_push}
use Rattle.tbr_flat.proofs.characters.Characters.push.Goals as goal

pub returns : goal.returns
returns g c =
    let p = c.in_ok-push.ensures.ok in
    rw (← c.self.view_is, c.in_default.ensures.ok, p.2) (p.0, p.1, flat_push c.self.inside.placed c.self.inside.word c.self.inside.tags c.self.invariant (c.args.c ∷ []) 1 p.0 refl)

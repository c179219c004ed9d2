use Rattle.tbr_flat.proofs.Common.{◌∙◌, ap, arith, Flat}
use Rattle.tbr_flat.proofs.TrimmedCharacters.{spaces_placed, line_trimmed}
use Rattle.tbr_flat.proofs.characters.Characters.trim_placed.Goals as goal

pub returns-clause-placed : goal.returns-clause-placed
returns-clause-placed g c = λ before line parts len.
    let p = c.self.inside.placed in let ts = c.self.inside.tags in let e = c.pop_spaces-spaces.ensures in let n = c.pop_spaces-spaces.result in
    let t =
    line_trimmed p c.pop_spaces-spaces.new.self ts n c.args.last before line (omega (arith, c.self.invariant))
    e.most e.spaces e.all (ap (λ (f : Flat g.row.T.Denot). f.placed) c.self.view_is ∙ parts) len in
    (rw c.remove_before.ensures (spaces_placed p c.self.inside.word ts n c.len.result c.self.invariant c.pop_spaces-spaces.new.self e.spaces c.len.ensures.len ∙ t.0), t.1)

use Rattle.std.proofs.Common.{◌≡◌, true, false, refl, sym, ap, ◌∙◌}
use Rattle.tbr_stack.proofs.links.TextRenderer+D+W.shown_number.Goals as goal

pub returns-then-not-options : goal.returns-then-not-options
returns-then-not-options g c =
    let off : c.top.result.now.options.include_link_footnotes ≡ false = ap (λ o. o.include_link_footnotes) (sym c.options.ensures) ∙ c.if-not-options.true in
    (c.top.result.now, c.top.ensures, rw off refl)

pub returns : goal.returns
returns g c =
    let on : c.top.result.now.options.include_link_footnotes ≡ true = ap (λ o. o.include_link_footnotes) (sym c.options.ensures) ∙ c.if-not-options.false in
    (c.top.result.now, c.top.ensures, rw on c.last_open_link.ensures)

use Rattle.std.proofs.Common.{◌≡◌, ℕ, ◌+◌, ◌*◌, unwrap_or, ap, sym, ◌∙◌, arith}
use Rattle.tbr_model.specs.Width.{width_of_text}
use Rattle.tbr_headings.specs.Headings.{marks}
use Rattle.tbr_headings.proofs.Marks.{marked_columns, is_sum}
use Rattle.tbr_headings.proofs.heading_columns.Goals as goal

pub returns-in-Some : goal.returns-in-Some
returns-in-Some g c = λ d.
    let columns = g.W.CharWidth.columns in
    let level = c.args.level in
    let text = c.are_marked.ensures d level ∙ ap (λ b. marks b level) c.if-not-are_marked.false in
    let takes = ap (width_of_text columns) text ∙ marked_columns columns level in
    let sign : c.unwrap_or-sign.result ≡ unwrap_or (columns 35) 0 = c.unwrap_or-sign.ensures ∙ ap (λ o. unwrap_or o 0) c.width.ensures in
    let space : c.unwrap_or-space.result ≡ unwrap_or (columns 32) 0 = c.unwrap_or-space.ensures ∙ ap (λ o. unwrap_or o 0) c.width-2.ensures in
    let signs = c.in-Some.ensures.1 ∙ ap (λ (n : ℕ). level * n) sign in
    is_sum c.checked_add.result (c.in-Some.signs + c.unwrap_or-space.result) _ c.checked_add.ensures (omega (arith, signs, space, takes))

pub returns-in-None : goal.returns-in-None
returns-in-None g c = λ d fits.
    let columns = g.W.CharWidth.columns in
    let level = c.args.level in
    let text = c.are_marked.ensures d level ∙ ap (λ b. marks b level) c.if-not-are_marked.false in
    let takes = ap (width_of_text columns) text ∙ marked_columns columns level in
    let sign : c.unwrap_or-sign.result ≡ unwrap_or (columns 35) 0 = c.unwrap_or-sign.ensures ∙ ap (λ o. unwrap_or o 0) c.width.ensures in
    let signs = ap (λ (n : ℕ). level * n) sign in
    c.in-None.ensures (omega (arith, fits, takes, signs))

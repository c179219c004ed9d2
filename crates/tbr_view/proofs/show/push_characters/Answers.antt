use Rattle.tbr_view.proofs.Common.{[], ◌∷◌, ◌++◌, chars, ap, ◌∙◌, append_assoc, string_bytes, on_ok_weaker, newline_character}
use Rattle.tbr_border.specs.RenderLine.{line_items}
use Rattle.tbr_tagged.specs.Walks.{item_characters}
use Rattle.tbr_view.proofs.show.push_characters.Goals as goal

pub returns : goal.returns
returns g c =
    let old = chars (string_bytes c.args.text.now) in
    on_ok_weaker c.end_line.result (λ h. h ∙ ap (λ cs. cs ++ newline_character ∷ []) c.in_ok-append_to.ensures
    ∙ append_assoc old (item_characters (line_items c.args.line.now)) (newline_character ∷ [])) c.end_line.ensures

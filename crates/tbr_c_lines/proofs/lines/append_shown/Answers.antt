use Rattle.std.proofs.Common.{refl, [], ◌∷◌, ◌++◌, ap, ◌∙◌, append_assoc}
use Rattle.std.proofs.lemmas.Result.{on_ok_weaker}
use Rattle.tbr_model.specs.Codes.{newline_character}
use Rattle.tbr_tagged.specs.View.{chars_of}
use Rattle.tbr_c_lines.specs.Formats.{line_as}
use Rattle.tbr_c_lines.proofs.lines.append_shown.Goals as goal

pub returns : goal.returns
returns g c =
    let old = chars_of c.args.text.now in
    let seen = c.in_ok-seen.seen in
    let shown = line_as c.args.is_bare c.args.format seen in
    on_ok_weaker c.end_line.result
    (λ h. (
      shown ++ newline_character ∷ [],
      (
        c.in_ok-clone.field-0,
        c.in_ok-out.out,
        seen,
        c.in_ok-clone.ensures,
        (c.in_ok-out.ensures.written, c.in_ok-out.ensures.merged),
        c.in_ok-seen.ensures,
        refl,
      ),
      h ∙ ap (λ cs. cs ++ newline_character ∷ []) c.in_ok-push_line.ensures ∙ append_assoc old shown (newline_character ∷ []),
    ))
    c.end_line.ensures

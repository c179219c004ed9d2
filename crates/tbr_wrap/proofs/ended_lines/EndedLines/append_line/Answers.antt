use Rattle.tbr_wrap.proofs.Common.{[], ◌∷◌, ◌++◌, refl, ap, ◌∙◌, arith, append_assoc, string_bytes, IsUtf8-string_bytes, chars_of, cut}
use Rattle.std.specs.Str.{chars}
use Rattle.tbr_tagged.specs.Walks.{item_characters}
use Rattle.tbr_tagged.proofs.TextAfter.{chars_push}
use Rattle.tbr_wrap.proofs.lines.CutLines.{none_cut, first_cut}
use Rattle.tbr_wrap.proofs.ended_lines.EndedLines.append_line.Goals as goal

pub returns-in_default : goal.returns-in_default
returns-in_default g c = λ is rest e.
    absurd
    (none_cut c.self.inside.laid.value.lines.ended.items c.self.inside.laid.value.lines.flat.placed is
    c.args.self.now rest
    (omega (arith, c.self.invariant.0, rw c.deref_mut.ensures.value at c.in_default.ensures.cases.0))
    c.self.view_is e)

pub returns : goal.returns
returns g c = λ is rest e.
    let n = c.in-Some.len in let old = chars_of c.args.text.now in let moved = c.move_text.new.text in
    let f = first_cut n c.pop_front.new.self.items c.self.inside.laid.value.lines.ended.items
    c.self.inside.laid.value.lines.flat.placed is c.args.self.now rest
    (rw c.deref_mut.ensures.value at c.in-Some.ensures.items) c.self.view_is e in (
      ap chars c.in_ok-push.ensures.bytes ∙ chars_push (string_bytes moved) 10 (IsUtf8-string_bytes moved) refl
          ∙ ap (λ cs. cs ++ 10 ∷ []) (rw c.deref_mut.ensures.value at c.in_default-move_text.ensures.text ∙ ap (λ js. old ++ item_characters js) f.0) ∙ append_assoc old (item_characters is) (10 ∷ []),
      ap (λ fl. cut c.pop_front.new.self.items fl.placed) (rw c.deref_mut.ensures.value at c.in_default-move_text.ensures.rest) ∙ f.1,
    )

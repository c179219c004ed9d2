use Rattle.tbr_view.proofs.Common.{◌≡◌, ℕ, ◌+◌, true, false, List, [], ◌∷◌, ◌++◌, length, append_assoc, arith, rules, ap, sym, ◌∙◌, lines_of, bytes_of, held, AreSkipped}
use Rattle.std.proofs.Common.{IfErr, subst}
use Rattle.std.specs.Str.{IsUtf8}
use Rattle.std.proofs.lemmas.List.{length-append}
use Rattle.tbr_script.specs.Script.{words_of}
use Rattle.tbr_commands.specs.Read.{opening_words}
use Rattle.tbr_commands.proofs.Commands.{unread}
use Rattle.tbr_statements.specs.Statement.{is_skipped}
use Rattle.tbr_view.proofs.script.first_command.Goals as goal

skipped_push : (lines : List (List ℕ)) (line : List ℕ) → AreSkipped lines → is_skipped line ≡ true → AreSkipped (lines ++ line ∷ [])
skipped_push [] line h is = (is, tt)
skipped_push (l ∷ lines) line h is = (h.0, skipped_push lines line h.1 is)

pub loop-line-preserved : goal.loop-line-preserved
loop-line-preserved c =
    let inv = c.loop-line.invariant in
    let line = bytes_of c.in-Some.line in
    let after = c.next.new.self in
    let skips : is_skipped line ≡ true = search rules in
    let counts : c.saturating_add-number.result ≡ held (length (inv.0 ++ line ∷ []) + 1) = omega (arith, length-append inv.0 (line ∷ []), inv.3) in (
      inv.0 ++ line ∷ [],
      inv.1 ∙ ap (λ (ls : List (List ℕ)). inv.0 ++ ls) c.in-Some.ensures.line ∙ sym (append_assoc inv.0 (line ∷ []) (lines_of after)),
      skipped_push inv.0 line inv.2 skips,
      counts,
    )

pub returns-in_default-line-clause-refused : goal.returns-in_default-line-clause-refused
returns-in_default-line-clause-refused c =
    let inv = c.loop-line.invariant in
    let line = c.in_default-line.field-0.now in
    let are = c.in-Some.ensures.line ∙ ap (λ taken. bytes_of taken ∷ lines_of c.next.new.self) c.in_default-line.is in
    let broken = subst (λ taken. IfErr taken (λ bytes. IsUtf8 bytes.now → ⊥)) c.in_default-line.is c.in-Some.ensures.broken in
    let none = unread (λ bs. opening_words (words_of bs)) line broken in
    let asks : is_skipped line ≡ false = search rules in
    record {
      skipped = inv.0;
      rest = line ∷ lines_of c.next.new.self;
      lines = inv.1 ∙ ap (λ (ls : List (List ℕ)). inv.0 ++ ls) are;
      each = inv.2;
      first = (asks, sym none);
      tells = search (rules, inv.3, c.not_utf8.ensures);
    }

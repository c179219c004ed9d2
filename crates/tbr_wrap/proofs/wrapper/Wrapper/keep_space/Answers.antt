use Rattle.tbr_wrap.proofs.Common.{◌≡◌, true, false, sym, ◌∙◌, ◌+◌, Some, ap, refl, arith, has_character, pending_width, same_has}
use Rattle.tbr_wrap.proofs.words.WordsLaid.{same_held_width, spaced_stands}
use Rattle.tbr_wrap.proofs.words.ModeCases.{some_space, none_held, keep_joins, keep_waits}
use Rattle.tbr_wrap.proofs.wrapper.Wrapper.keep_space.Goals as goal

pub returns-then-has_word-clause-kept : goal.returns-then-has_word-clause-kept
returns-then-has_word-clause-kept g c = λ columns a wide same before given p s.
    let has = sym (same_has g.T.PartialEq.eq c.args.self.now.lines.flat.word p.word s.word) ∙ sym c.has_word.ensures ∙ c.if-has_word.true in
    rw (keep_joins c.args.c a c.args.mode c.args.width p has) (c.join.ensures.joined columns a wide same before given p s)

pub returns-in_ok-tag-clause-kept : goal.returns-in_ok-tag-clause-kept
returns-in_ok-tag-clause-kept g c = λ columns a wide same before given p s.
    let eq = g.T.PartialEq.eq in let laws = g.met.T.Eq.laws in let b = c.args.self.now in
    let none : has_character p.word ≡ false = sym (same_has eq b.lines.flat.word p.word s.word) ∙ sym c.has_word.ensures ∙ c.if-has_word.false in
    let copy : eq c.in_ok-tag.tag c.args.tag.now ≡ true = laws.symm _ _ ∙ g.met.T.Tag.copies_equal _ _ c.in_ok-tag.ensures.cases in
    let pending : c.pending_width.result ≡ pending_width p.space = c.pending_width.ensures ∙ same_held_width eq b.space p.space s.space in
    let all : c.in-Some.width ≡ pending_width p.space + c.args.width = omega (arith, c.in-Some.ensures, pending) in
    rw
    (keep_waits c.args.c a c.args.mode c.args.width p none
    ∙ ap (λ o. record p { space = o })
    (some_space (pending_width p.space + c.args.width) a c.args.mode (omega (arith, c.if-width-gt0.true, all))))
    (spaced_stands columns eq b _ before given p
    (Some (record { width = pending_width p.space + c.args.width; tag = a; mode = c.args.mode })) s
    (all, laws.congr c.in_ok-tag.tag c.args.tag.now a copy ∙ same, refl))

pub returns-else-width-gt0-clause-kept : goal.returns-else-width-gt0-clause-kept
returns-else-width-gt0-clause-kept g c = λ columns a wide same before given p s.
    let eq = g.T.PartialEq.eq in let laws = g.met.T.Eq.laws in let b = c.args.self.now in
    let none : has_character p.word ≡ false = sym (same_has eq b.lines.flat.word p.word s.word) ∙ sym c.has_word.ensures ∙ c.if-has_word.false in
    let space =
    none_held eq (pending_width p.space + c.args.width) a c.args.mode
    (omega
    (arith, c.if-width-gt0.false, c.in-Some.ensures, c.pending_width.ensures, same_held_width eq b.space p.space s.space)) in
    rw (keep_waits c.args.c a c.args.mode c.args.width p none)
    (spaced_stands columns eq b _ before given p _ s space)

use Rattle.tbr_wrap.proofs.Common.{◌≡◌, true, false, sym, ap, ◌∙◌, arith, has_character, end_if_character, is_pre, same_has}
use Rattle.tbr_wrap.proofs.words.WordsLaid.{stands_laid, flagged_stands, lay_fresh_some, lay_fresh_none}
use Rattle.tbr_wrap.proofs.wrapper.Wrapper.lay_fresh.Goals as goal

pub put_pending-requires : goal.put_pending-requires
put_pending-requires g c =
    let w = c.requires.stands in
    omega (arith, (c.in_ok-end_if_character.ensures.ended g.W.CharWidth.columns w.0 w.1 w.2.laid w.3.lays).1, c.end_if_character.new.self.positive)

pub returns-clause-laid : goal.returns-clause-laid
returns-clause-laid g c = λ before given p s.
    let columns = g.W.CharWidth.columns in let eq = g.T.PartialEq.eq in let b = c.args.self.now in
    let k = c.in_ok-end_if_character.ensures in
    let t = stands_laid columns eq b c.end_if_character.new.self before given p (end_if_character p.laid) s (k.ended columns before given p.laid s.lays).0 (rw k.flat s.word) in
    let u = c.in_ok-put_pending.ensures.put before given (record p { laid = end_if_character p.laid }) t in
    let none : has_character p.word ≡ false = sym (same_has eq c.put_pending.new.self.lines.flat.word p.word u.word) ∙ sym c.has_word.ensures ∙ c.if-has_word.false in
    let v = rw k.limits.width at u in
    rw (lay_fresh_none columns b.lines.width p none)
    (flagged_stands columns eq c.put_pending.new.self _ before given _ (is_pre p.mode) v (c.is_pre-self.ensures ∙ ap is_pre u.mode))

pub returns-then-has_word-clause-laid : goal.returns-then-has_word-clause-laid
returns-then-has_word-clause-laid g c = λ before given p s.
    let columns = g.W.CharWidth.columns in let eq = g.T.PartialEq.eq in let b = c.args.self.now in
    let k = c.in_ok-end_if_character.ensures in
    let t = stands_laid columns eq b c.end_if_character.new.self before given p (end_if_character p.laid) s (k.ended columns before given p.laid s.lays).0 (rw k.flat s.word) in
    let u = c.in_ok-put_pending.ensures.put before given (record p { laid = end_if_character p.laid }) t in
    let f = flagged_stands columns eq c.put_pending.new.self _ before given _ (is_pre p.mode) u (c.is_pre-self.ensures ∙ ap is_pre u.mode) in
    let v = c.put_fresh.ensures.put before given _ f in
    let w : c.put_pending.new.self.lines.width ≡ b.lines.width = c.in_ok-put_pending.ensures.limits.width ∙ k.limits.width in
    let some : has_character p.word ≡ true = sym (same_has eq c.put_pending.new.self.lines.flat.word p.word u.word) ∙ sym c.has_word.ensures ∙ c.if-has_word.true in
    rw (lay_fresh_some columns b.lines.width p some)
    (rw (w, k.limits.width) at v)

pub returns-then-has_word-clause-too_narrow : goal.returns-then-has_word-clause-too_narrow
returns-then-has_word-clause-too_narrow g c = λ refused before given p s.
    let columns = g.W.CharWidth.columns in let eq = g.T.PartialEq.eq in let b = c.args.self.now in
    let k = c.in_ok-end_if_character.ensures in
    let t = stands_laid columns eq b c.end_if_character.new.self before given p (end_if_character p.laid) s (k.ended columns before given p.laid s.lays).0 (rw k.flat s.word) in
    let u = c.in_ok-put_pending.ensures.put before given (record p { laid = end_if_character p.laid }) t in
    let f = flagged_stands columns eq c.put_pending.new.self _ before given _ (is_pre p.mode) u (c.is_pre-self.ensures ∙ ap is_pre u.mode) in
    let w : c.put_pending.new.self.lines.width ≡ b.lines.width = c.in_ok-put_pending.ensures.limits.width ∙ k.limits.width in
    let n = c.put_fresh.ensures.too_narrow refused before given _ f in
    (sym (c.in_ok-put_pending.ensures.limits.may_overflow ∙ k.limits.may_overflow) ∙ n.0, λ h. n.1 (rw w h))

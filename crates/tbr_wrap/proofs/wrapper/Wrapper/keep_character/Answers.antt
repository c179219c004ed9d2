use Rattle.tbr_wrap.proofs.Common.{◌≡◌, ◌&&◌, true, false, ◌∙◌, sym, rules, is_pre, passes, tag_of}
use Rattle.tbr_wrap.proofs.wrapper.Wrapper.keep_character.Goals as goal

pub returns-then-begins_continuation-clause-kept : goal.returns-then-begins_continuation-clause-kept
returns-then-begins_continuation-clause-kept g c = λ columns wide before given p s.
    let test : (is_pre c.args.mode && passes columns c.args.self.now.lines.width c.args.width p) ≡ true =
    sym (c.begins_continuation.ensures columns before given p s) ∙ c.if-begins_continuation.true in
    rw test
    (c.join.ensures.joined columns c.args.wrap_tag.now wide (g.met.T.Eq.laws.refl c.args.wrap_tag.now) before given
    (record p { continuation_flag = true; in_continuation = true }) (search rules))

pub returns-clause-kept : goal.returns-clause-kept
returns-clause-kept g c = λ columns wide before given p s.
    let test : (is_pre c.args.mode && passes columns c.args.self.now.lines.width c.args.width p) ≡ false =
    sym (c.begins_continuation.ensures columns before given p s) ∙ c.if-begins_continuation.false in
    rw test (c.join-2.ensures.joined columns (tag_of p c.args.main_tag.now c.args.wrap_tag.now) wide (c.call_tag-tag.ensures columns before given p s) before given p s)

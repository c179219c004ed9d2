use Rattle.tbr_kept_lines.proofs.Common.{◌++◌, subst, chars, SameItems, items_of, text_items, same_items, same_items_trans, same_items_append, items_under, line_seen, as_text}
use Rattle.tbr_kept_lines.proofs.Prefixes.{under_seen}
use Rattle.tbr_kept_lines.proofs.kept_lines.put_prefix.Goals as goal

pub returns-clause-seen : goal.returns-clause-seen
returns-clause-seen g c =
    let eq = g.T.PartialEq.eq in
    let laws = g.met.T.Eq.laws in
    let tag = c.args.tag.now in
    let prefix = text_items (chars c.args.prefix.now) tag in
    let text = items_of c.in_ok-text.text in
    let shown = subst (SameItems eq text) (under_seen tag c.args.line.now) (subst (λ l. SameItems eq text (items_under tag l)) c.replace-border.ensures.value c.in_ok-text.ensures.items) in
    same_items_trans eq laws (items_of c.put_in_front-2.new.line) (prefix ++ text) (prefix ++ as_text tag (line_seen c.args.line.now)) c.in_ok-put_in_front.ensures.items
    (same_items_append eq laws prefix prefix text (as_text tag (line_seen c.args.line.now)) (same_items eq laws prefix) shown)

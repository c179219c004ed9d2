use Rattle.tbr_kept_lines.proofs.Common.{◌∙◌, map, length, ap, sym, subst, chars, AllZip, on_ok_weaker, line_seen, SameSeen, prefixed_lines}
use Rattle.tbr_kept_lines.proofs.Prefixes.{written_over}
use Rattle.tbr_kept_lines.proofs.kept_lines.KeptLines.extend_prefixed.Goals as goal

pub returns : goal.returns
returns g c =
    let eq = g.T.PartialEq.eq in
    let lines = c.args.lines in
    let put = c.put_prefixes.new.lines in
    let written = written_over lines.items put lines.len lines.ok.0 (c.put_prefixes.auto.lines ∙ ap length c.deref_mut.ensures.value) in
    let prefixed = prefixed_lines c.args.tag.now (chars c.args.first.now) (chars c.args.others.now) in
    let seen = subst (λ ls. AllZip (SameSeen eq) (map line_seen put) (prefixed (map line_seen ls))) c.deref_mut.ensures.value c.in_ok-put_prefixes.ensures.seen in
    on_ok_weaker c.extend.result (λ is. (_, is, subst (λ ls. AllZip (SameSeen eq) (map line_seen ls) (prefixed (map line_seen lines.items))) (sym written) seen)) c.extend.ensures

use Rattle.tbr_flat.proofs.Common.{◌≡◌, ◌+◌, ◌∷◌, [], length, take, chars, unwrap_or, ap, ◌∙◌, arith, width_of_text}
use Rattle.std.proofs.Common.{length-append, length-take}
use Rattle.tbr_tagged.proofs.TextColumns.{width_of_text-append}
use Rattle.tbr_flat.proofs.TextBytes.{read_more, read_len}
use Rattle.tbr_flat.proofs.text_queue.fitting.Goals as goal

pub loop-front-preserved : goal.loop-front-preserved
loop-front-preserved g c =
    let columns = g.W.CharWidth.columns in let inv = c.loop-front.invariant in let x = c.in-Some.c in
    let text = c.args.text.now in let n = c.loop-front.front.count in let rest = c.next.new.self.rest.now in
    let more = read_more text c.loop-front.rest.rest.now rest n x inv.read c.in-Some.ensures.steps.0 in
    let one : c.unwrap_or-width.result ≡ unwrap_or (columns x) 0 = c.unwrap_or-width.ensures ∙ ap (λ o. unwrap_or o 0) c.width.ensures in
    record {
      read = more.0;
      bytes = omega (arith, read_len text rest (n + 1) more.0, ap length c.as_str.ensures);
      within = omega (arith, ap length more.1, length-append (take n (chars text)) (x ∷ []), length-take n (chars text), length-take (n + 1) (chars text));
      most = omega (arith, c.loop-front-test.true);
      columns = omega (arith, inv.columns, one, ap (width_of_text columns) more.1, width_of_text-append columns (take n (chars text)) (x ∷ []));
      room = omega (arith, inv.room, c.if-width-room.false);
    }

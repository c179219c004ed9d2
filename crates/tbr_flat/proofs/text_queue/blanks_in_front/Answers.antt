use Rattle.tbr_flat.proofs.Common.{◌≡◌, ◌+◌, ◌∷◌, [], true, length, take, chars, ap, sym, ◌∙◌, subst, arith, Each, is_whitespace}
use Rattle.std.proofs.Common.{length-append, length-take}
use Rattle.tbr_model.proofs.lists.Each.{each_append}
use Rattle.tbr_flat.proofs.TextBytes.{read_more}
use Rattle.tbr_flat.proofs.text_queue.blanks_in_front.Goals as goal

pub loop-count-preserved : goal.loop-count-preserved
loop-count-preserved c =
    let inv = c.loop-count.invariant in let x = c.in-Some.c in let n = c.loop-count.count in let text = c.args.text.now in
    let more = read_more text c.loop-count.rest.rest.now c.next.new.self.rest.now n x inv.read c.in-Some.ensures.steps.0 in
    record {
      read = more.0;
      within = omega (arith, ap length more.1, length-append (take n (chars text)) (x ∷ []), length-take n (chars text), length-take (n + 1) (chars text));
      most = omega (arith, c.loop-count-test.true);
      blank =
          subst (Each (λ d. is_whitespace d ≡ true)) (sym more.1)
          (each_append (λ d. is_whitespace d ≡ true) (take n (chars text)) (x ∷ []) inv.blank (sym c.is_whitespace.ensures ∙ c.if-not-is_whitespace.false, tt));
    }

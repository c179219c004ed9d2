use Rattle.callers.proofs.Common.{◌≡◌, Bool, if◌then◌else◌, is_some, ap, sym, ◌∙◌, on_ok_weaker, done, live_goes, Counted, with_more, one_line, failure}
use Rattle.callers.proofs.Counts.{one_prefixed, handed, unfailed}
use Rattle.callers.proofs.counter.CounterRenderer.append_subrender.Goals.{then-is_none, else-is_none}
use Rattle.callers.proofs.counter.CounterRenderer.append_subrender.Goals as goal

pub returns-clause-ok : goal.returns-clause-ok
returns-clause-ok g c =
    let (given, (gives, count)) = one_prefixed g.I.Iterator.next_gives c.args.prefixes c.next.new.self c.next.result g.P.AsStr.text c.args.other c.next.ensures.steps in
    let other = c.args.other in
    let if_some = λ (b : Bool). if b then other.characters else 0 in
    let shown : (c.if-is_none.other.failed ≡ other.failed) × (c.if-is_none.other.characters ≡ if_some (is_some c.next.result)) = elim c.if-is_none.branch [
      | then-is_none w ↦ (
        ap (λ (d : Counted). d.failed) w.other-is ∙ ap (λ (d : Counted). d.failed) c.other.view_is,
        ap (λ (d : Counted). d.characters) w.other-is ∙ sym (ap if_some w.if-is_none.ensures),
      )
      | else-is_none w ↦ (
        ap (λ (d : Counted). d.failed) w.other-is,
        ap (λ (d : Counted). d.characters) w.other-is ∙ sym (ap if_some w.if-is_none.ensures),
      )
    ] in
    on_ok_weaker c.take.result (λ h. (
      one_line c.args.other,
      given,
      handed c.args.other (sym shown.0 ∙ h.1),
      gives,
      live_goes (failure c.args.self.now) _ (unfailed c.args.self.now h.0)
          ∙ ap (λ n. done (with_more n c.args.self.now)) (count ∙ sym shown.1) ∙ ap (λ (d : Counted). done d) (sym h.2),
    )) c.take.ensures.ok

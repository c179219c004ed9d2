use Rattle.tbr_flat.proofs.Common.{◌≡◌, ◌-◌, ◌++◌, replicate, length, ap, sym, ◌∙◌, arith, refl, string_bytes}
use Rattle.tbr_flat.proofs.TextEnds.{spaces_within, spaces_boundary, spaces_gone}
use Rattle.tbr_flat.proofs.text_queue.TextQueue.pop_spaces.Goals as goal

pub overflow_sub-len : goal.overflow_sub-len
overflow_sub-len c =
    let s = c.spaces_at_end-count.ensures.spaces in
    omega (arith, spaces_within _ s.0 _ _ c.spaces_at_end-count.result _ _ c.self.invariant c.self.view_is (sym c.as_str.ensures ∙ s.1) refl, c.len.ensures)

pub truncate-requires : goal.truncate-requires
truncate-requires c = λ _.
    let s = c.spaces_at_end-count.ensures.spaces in
    let end : c.len.result - c.spaces_at_end-count.result ≡ length (string_bytes c.self.inside.text) - c.spaces_at_end-count.result = omega (arith, c.len.ensures) in
    let h = spaces_boundary _ s.0 _ _ c.spaces_at_end-count.result _ _ c.self.invariant c.self.view_is (sym c.as_str.ensures ∙ s.1) end in (h.0, λ _. h.1)

pub invariant_of-self : goal.invariant_of-self
invariant_of-self c =
    let s = c.spaces_at_end-count.ensures.spaces in
    let end : c.len.result - c.spaces_at_end-count.result ≡ length (string_bytes c.self.inside.text) - c.spaces_at_end-count.result = omega (arith, c.len.ensures) in
    (spaces_gone _ s.0 _ _ c.spaces_at_end-count.result _ _ c.self.invariant c.self.view_is (sym c.as_str.ensures ∙ s.1) end _ c.truncate.ensures.bytes).parts

pub returns-clause-small : goal.returns-clause-small
returns-clause-small c =
    let s = c.spaces_at_end-count.ensures.spaces in let text = c.self.inside.text.bytes in
    omega (arith, spaces_within _ s.0 _ _ c.spaces_at_end-count.result _ _ c.self.invariant c.self.view_is (sym c.as_str.ensures ∙ s.1) refl, text.ok.0, text.ok.1, text.small)

pub returns-clause-spaces : goal.returns-clause-spaces
returns-clause-spaces c =
    let s = c.spaces_at_end-count.ensures.spaces in
    let end : c.len.result - c.spaces_at_end-count.result ≡ length (string_bytes c.self.inside.text) - c.spaces_at_end-count.result = omega (arith, c.len.ensures) in
    sym c.as_str.ensures ∙ s.1 ∙ ap (λ cs. cs ++ replicate c.spaces_at_end-count.result 32)
    (sym (spaces_gone _ s.0 _ _ c.spaces_at_end-count.result _ _ c.self.invariant c.self.view_is (sym c.as_str.ensures ∙ s.1) end _ c.truncate.ensures.bytes).seen)

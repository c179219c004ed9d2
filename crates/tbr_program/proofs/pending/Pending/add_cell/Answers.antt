use Rattle.tbr_program.proofs.Common.{◌≡◌, ◌<◌, ◌+◌, ℕ, List, [], ◌∷◌, ◌++◌, length, length-append, sym, ap, ◌∙◌, subst, Each, CellAlign, Renderer, Pending, with_cell}
use Rattle.tbr_model.proofs.lists.Each.{each_append}
use Rattle.tbr_program.proofs.pending.Pending.add_cell.Goals as goal

as_many : {X Y : Type 0} (xs all : List X) (ys each : List Y) (x : X) (y : Y) → all ≡ xs ++ x ∷ [] → each ≡ ys ++ y ∷ [] → length ys ≡ length xs → length each ≡ length all
as_many xs all ys each x y a b same =
    ap length b ∙ length-append ys (y ∷ []) ∙ ap (λ n. n + 1) same ∙ sym (length-append xs (x ∷ [])) ∙ sym (ap length a)

with_more : {D A T : Type 0} (p q : Pending D A T) (cells : List (Renderer D A T × ℕ)) (aligns : List CellAlign) (inside : Renderer D A T) (span : ℕ) (align : CellAlign) →
    p ≡ q → cells ≡ p.cells ++ (inside, span) ∷ [] → aligns ≡ p.aligns ++ align ∷ [] → record p { cells = cells; aligns = aligns } ≡ with_cell q inside span align
with_more {D} {A} {T} p q cells aligns inside span align same a b =
    ap (λ (cs : List (Renderer D A T × ℕ)). record p { cells = cs; aligns = aligns }) a
    ∙ ap (λ (gs : List CellAlign). record p { cells = p.cells ++ (inside, span) ∷ []; aligns = gs }) b
    ∙ ap (λ (r : Pending D A T). with_cell r inside span align) same

pub invariant_of-self-2 : goal.invariant_of-self-2
invariant_of-self-2 g c =
    let old = c.self.inside in
    let aligns = c.push_reserved.ensures.items ∙ ap (λ gs. gs ++ c.args.align ∷ []) c.in_ok-reserve.ensures.items in (
      subst (Each (λ cell. 0 < cell.1)) (sym c.in_ok-push.ensures.items) (each_append (λ cell. 0 < cell.1) old.cells.items _ c.self.invariant.0 (c.requires, tt)),
      as_many old.cells.items c.push.new.self.items old.aligns.items c.push_reserved.new.self.items _ _ c.in_ok-push.ensures.items aligns c.self.invariant.1,
    )

pub returns-clause-waits : goal.returns-clause-waits
returns-clause-waits g c =
    let aligns = c.push_reserved.ensures.items ∙ ap (λ gs. gs ++ c.args.align ∷ []) c.in_ok-reserve.ensures.items in
    with_more _ c.args.self.now c.push.new.self.items c.push_reserved.new.self.items c.args.cell c.args.span c.args.align c.self.view_is c.in_ok-push.ensures.items aligns

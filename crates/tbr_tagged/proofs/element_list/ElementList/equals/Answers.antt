use Rattle.tbr_tagged.proofs.Common.{refl, sym, ◌∙◌}
use Rattle.tbr_tagged.specs.contracts.element.TaggedLineElementPartialEq.TheImpl as elements
use Rattle.tbr_tagged.proofs.EqualLines.{same_alone, same_before_one, one_before_same, same_lines}
use Rattle.tbr_tagged.proofs.element_list.ElementList.equals.Goals as goal

pub returns-in-Alone-Alone : goal.returns-in-Alone-Alone
returns-in-Alone-Alone g c =
    rw (c.in-Alone-Alone.is-0, c.in-Alone-Alone.is-1, c.eq.ensures)
    (same_alone g.T.PartialEq.eq (elements.ghosts g.row.T g.T.PartialEq g.T.PartialEq-dict).eq (λ s t. refl) (λ m n. refl) (λ s n. refl) (λ m t. refl) c.in-Alone-Alone.one c.in-Alone-Alone.two)

pub returns-then-len-eq1 : goal.returns-then-len-eq1
returns-then-len-eq1 g c =
    let twos = c.in-Alone-Listed.twos in
    rw (c.in-Alone-Listed.is-0, c.in-Alone-Listed.is-1, c.eq-then-len-eq1.ensures)
    (same_before_one g.T.PartialEq.eq (elements.ghosts g.row.T g.T.PartialEq g.T.PartialEq-dict).eq (λ s t. refl)
    (λ m n. refl) (λ s n. refl) (λ m t. refl) c.in-Alone-Listed.one c.index.result.now twos.items
    (sym twos.ok.0 ∙ sym c.len.ensures ∙ c.if-len-eq1.true) c.index.ensures)

pub returns-then-len-eq1-2 : goal.returns-then-len-eq1-2
returns-then-len-eq1-2 g c =
    let ones = c.in-Listed-Alone.ones in
    rw (c.in-Listed-Alone.is-0, c.in-Listed-Alone.is-1, c.eq-then-len-eq1-2.ensures)
    (one_before_same g.T.PartialEq.eq (elements.ghosts g.row.T g.T.PartialEq g.T.PartialEq-dict).eq (λ s t. refl)
    (λ m n. refl) (λ s n. refl) (λ m t. refl) c.index-then-len-eq1-2.result.now c.in-Listed-Alone.two ones.items
    (sym ones.ok.0 ∙ sym c.len-in-Listed-Alone.ensures ∙ c.if-len-eq1-2.true) c.index-then-len-eq1-2.ensures)

pub returns-in-Listed-Listed : goal.returns-in-Listed-Listed
returns-in-Listed-Listed g c =
    rw (c.in-Listed-Listed.is-0, c.in-Listed-Listed.is-1, c.eq-in-Listed-Listed.ensures)
    (same_lines g.T.PartialEq.eq _ (λ s t. refl) (λ m n. refl) (λ s n. refl) (λ m t. refl) c.in-Listed-Listed.ones.items c.in-Listed-Listed.twos.items)

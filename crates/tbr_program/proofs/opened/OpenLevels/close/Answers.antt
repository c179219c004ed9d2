use Rattle.tbr_program.proofs.Common.{◌≡◌, Option, Some, List, [], ◌∷◌, ◌++◌, reverse, sym, ap, ◌∙◌, option_to_list, reverse-append}
use Rattle.tbr_program.proofs.opened.OpenLevels.close.Goals as goal

last_first : {X : Type 0} (all left : List X) (o : Option X) (x y : X) → all ≡ left ++ option_to_list o → o ≡ Some x → y ≡ x → reverse all ≡ y ∷ reverse left
last_first all left o x y are is same =
    ap reverse (are ∙ ap (λ p. left ++ option_to_list p) is) ∙ reverse-append left (x ∷ []) ∙ ap (λ z. z ∷ reverse left) (sym same)

pub returns : goal.returns
returns g c = (
  c.below.inside.by,
  sym c.self.view_is ∙ last_first c.self.inside.levels.items c.pop.new.self.items c.pop.result c.unwrap.result _ c.pop.ensures.items c.unwrap.ensures c.below.view_is,
)

use Rattle.tbr_wrap.proofs.Common.{refl, ap, ◌∙◌, sym, subst, arith, done, answers_ok, Block, without_loose, settings_of, HoldsRun, block_of}
use Rattle.tbr_wrap.proofs.runs.HeldRuns.{holds_taken, word_held, word_names_held}
use Rattle.tbr_wrap.proofs.runs.Blocks.{led_on, settings_kept, none_taken}
use Rattle.tbr_wrap.proofs.block.WrappedBlock.take_trailing_fragments.Given.{Over}
use Rattle.tbr_wrap.proofs.block.WrappedBlock.take_trailing_fragments.Goals.{In_ok-refusal}
use Rattle.tbr_wrap.proofs.block.WrappedBlock.take_trailing_fragments.Goals as goal

-- what a block that hasn't failed holds
held : (g : Over) (c : In_ok-refusal g) → HoldsRun g.W.CharWidth.columns g.T.PartialEq.eq c.self.inside.wrapper.value c.self.inside.begun (block_of g.W.CharWidth.columns c.self.inside)
held g c = c.self.invariant (ap (λ (s : Block g.row.T.Denot). s.failure) c.self.view_is ∙ c.in_ok-refusal.ensures)

-- ---- a word that has a character

pub returns-then-has_word-clause-answers : goal.returns-then-has_word-clause-answers
returns-then-has_word-clause-answers g c = grind (arith, held, In_ok-refusal, word_held, answers_ok, none_taken, c.has_word.ensures, c.if-has_word.true, c.in_ok-refusal.ensures, c.self.view_is)

pub returns-then-has_word-clause-markers : goal.returns-then-has_word-clause-markers
returns-then-has_word-clause-markers g c = grind (arith, held, In_ok-refusal, word_held, c.has_word.ensures, c.if-has_word.true, c.self.view_is, c.new.ensures.items)

-- ---- one that has none

pub invariant_of-self-2 : goal.invariant_of-self-2
invariant_of-self-2 g c = λ live.
    let columns = g.W.CharWidth.columns in let r = c.self.inside in
    let t = record r { wrapper = record r.wrapper { value = c.take_markers-taken.new.self }; failure = c.keep_want.new.failure; changes = c.appended-self-inside.result } in
    let was = c.in_ok-markers.ensures.ok in
    let before = sym was.1 ∙ live in
    let k = c.self.invariant before in
    let none = sym (word_held _ _ _ _ _ k) ∙ sym (rw c.deref.ensures at c.has_word.ensures) ∙ c.if-has_word.false in
    let limits = rw c.deref_mut.ensures.value at c.take_markers-taken.ensures.limits in
    let stands = rw was.0 at (rw c.deref_mut.ensures.value at (c.take_markers-taken.ensures.taken columns) _ _ _ k.stands) in
    subst (HoldsRun columns g.T.PartialEq.eq t.wrapper.value r.begun)
    (sym (led_on columns r t _ limits refl c.appended-self-inside.ensures before live))
    (holds_taken _ _ _ _ _ k t.wrapper.value none stands)

pub returns-clause-answers : goal.returns-clause-answers
returns-clause-answers g c =
    let columns = g.W.CharWidth.columns in let r = c.self.inside in
    let t = record r { wrapper = record r.wrapper { value = c.take_markers-taken.new.self }; failure = c.keep_want.new.failure; changes = c.appended-self-inside.result } in
    let limits = rw c.deref_mut.ensures.value at c.take_markers-taken.ensures.limits in
    let was = ap (λ (s : Block g.row.T.Denot). s.failure) c.self.view_is ∙ c.in_ok-refusal.ensures in
    answers_ok _ _ _ _ _ _ c.in_ok-refusal.ensures
    (ap done (sym (led_on columns r t _ limits refl c.appended-self-inside.ensures was (c.in_ok-markers.ensures.ok.1 ∙ was) ∙ ap (without_loose columns) c.self.view_is)))
    (settings_kept columns r t limits refl ∙ ap settings_of c.self.view_is)

pub returns-clause-markers : goal.returns-clause-markers
returns-clause-markers g c =
    let columns = g.W.CharWidth.columns in
    let k = held g (goal.at.returns-clause-markers g c).In_ok-refusal in
    let none = sym (word_held _ _ _ _ _ k) ∙ sym (rw c.deref.ensures at c.has_word.ensures) ∙ c.if-has_word.false in
    rw (← c.self.view_is, ← word_names_held _ _ _ _ _ k none) (rw c.in_ok-markers.ensures.ok.0 at (rw c.deref_mut.ensures.value at c.take_markers-taken.ensures.markers))

use Rattle.callers.proofs.Common.{◌≡◌, true, false, None, Ok, Err, Result, List, chars, refl, arith, ap, ◌∙◌, sym, subst, AllZip, IfOk-weaker, Item, Normal, Block, new_block, after_text, after_flush}
use Rattle.callers.proofs.Common.{done, text_entries, HasBestLines, ShowsText, Error, TooNarrow, OutOfMemory, text_leaves}
use Rattle.std.proofs.Common.{IfErr}
use Rattle.std.specs.Result.{IsErrAnd}
use Rattle.tbr_tagged.specs.Outcome.{refused}
use Rattle.tbr_tagged.specs.UnicodeColumns.{unicode_columns, unicode_columns_drawn, unicode_columns_at_most_two}
use Rattle.callers.proofs.NormalTexts.{best_lines}
use Rattle.tbr_wrap.proofs.runs.BlockLaws.{text_in_two, flush_in_two}
use Rattle.callers.proofs.best_lines.wrapped.Goals as goal

-- a refusal that isn't `TooNarrow` is `OutOfMemory`
wants_memory : {R : Type 0} (result : Result R Error) → (result ≡ Err TooNarrow → ⊥) → IfErr result (λ e. e ≡ OutOfMemory)
wants_memory (Ok x) h = tt
wants_memory (Err OutOfMemory) h = refl
wants_memory (Err TooNarrow) h = absurd (h refl)

pub returns-clause-best : goal.returns-clause-best
returns-clause-best c =
    let s = c.add_text.new.self in
    let joins =
    subst
    (λ (b : Block (Unit {0})). after_text unicode_columns (chars c.args.text.now) tt tt Normal b ≡ done
    c.add_text.new.self) c.in_ok-block.ensures c.in_ok-add_text.ensures.answers.ok in
    IfOk-weaker c.into_lines.result
    (λ lines. (t : Block (Unit {0})) × (after_flush unicode_columns s ≡ done t) × AllZip (ShowsText unicode_columns (λ _ _. true) s.padding s.width) lines.items t.ended)
    (λ lines. (texts : List (List (Item (Unit {0})))) × HasBestLines unicode_columns c.args.width
    (text_entries (chars c.args.text.now) tt tt Normal) texts × AllZip
    (ShowsText unicode_columns (λ _ _. true) None c.args.width) lines.items texts)
    (λ lines given. best_lines unicode_columns (unicode_columns_drawn 32 refl) (λ _ _. true) c.args.width
    (omega (arith, c.requires)) None (chars c.args.text.now) tt tt s lines.items joins given)
    c.into_lines.ensures.gives

pub returns-clause-memory : goal.returns-clause-memory
returns-clause-memory c =
    let s = c.add_text.new.self in
    let joins =
    subst
    (λ (b : Block (Unit {0})). after_text unicode_columns (chars c.args.text.now) tt tt Normal b ≡ done
    c.add_text.new.self) c.in_ok-block.ensures c.in_ok-add_text.ensures.answers.ok in
    let is = text_leaves unicode_columns (new_block c.args.width false None) s (chars c.args.text.now) tt tt Normal joins in
    wants_memory c.into_lines.result
    (λ e. flush_in_two unicode_columns (unicode_columns_drawn 32 refl) unicode_columns_at_most_two s
    (omega (arith, c.requires, ap (λ (b : Block (Unit {0})). b.width) is))
    (ap (λ (b : Block (Unit {0})). b.failure) is)
    (c.into_lines.ensures.refuses e))

pub returns-in_err-add_text-clause-memory : goal.returns-in_err-add_text-clause-memory
returns-in_err-add_text-clause-memory c = wants_memory c.from_residual-in_err-add_text.result (λ is.
    let e : c.add_text.result ≡ Err TooNarrow =
    c.in_err-add_text.was
    ∙ ap Err
    (sym
    (subst (λ (r : Result _ Error). IsErrAnd r (λ x. x ≡ c.in_err-add_text.field-0.0)) is
    c.from_residual-in_err-add_text.ensures.1)) in
    text_in_two unicode_columns (unicode_columns_drawn 32 refl) unicode_columns_at_most_two (new_block c.args.width false None) (chars c.args.text.now) tt tt Normal c.requires refl
    (subst (λ (b : Block (Unit {0})). after_text unicode_columns (chars c.args.text.now) tt tt Normal b ≡ refused TooNarrow) c.in_ok-block.ensures (c.add_text.ensures.answers.too_narrow e)))

use Rattle.tbr_wrap.proofs.Common.{◌≡◌, true, List, ◌++◌, map, chars, take, drop, refl, ap, ◌∙◌, sym, subst, Err, rules, err_from_is_err_and, chars-append, IsCharBoundary-from_take, Entry, entry}
use Rattle.tbr_wrap.proofs.Common.{text_entries, Block, lines, allows, grown, settled, HoldsRun, block_of, IsAtProgress}
use Rattle.std.proofs.Common.{take-append-drop}
use Rattle.tbr_tagged.specs.declared.error.Error.TheVariants as E
use Rattle.tbr_wrap.proofs.runs.HeldRuns.{holds_grown, given}
use Rattle.tbr_wrap.proofs.runs.Blocks.{led_on, entries_entered, text_grown, refused_text, entered_allows}
use Rattle.tbr_wrap.proofs.block.WrappedBlock.add_front.Goals as goal

pub split_at-requires : goal.split_at-requires
split_at-requires g c = search (rules, IsCharBoundary-from_take, c.in_ok-bytes.ensures.ok.0, c.add_front-added.ensures.front)

pub invariant_of-self-2 : goal.invariant_of-self-2
invariant_of-self-2 g c = λ live.
    let columns = g.W.CharWidth.columns in let eq = g.T.PartialEq.eq in let r = c.self.inside in
    let t = record r { wrapper = record r.wrapper { value = c.add_front-added.new.self }; failure = c.keep.new.failure; changes = c.note_text.new.changes } in
    let mode = c.args.mode in
    let cs = chars c.split_at.result.0.now in
    let entries : List (Entry g.row.T.Denot) = text_entries cs c.args.main_tag.now c.args.wrap_tag.now mode in
    let done = c.in_ok-bytes.ensures.ok in
    let was = sym done.1 ∙ live in
    let k = c.self.invariant was in
    let far = given _ _ _ _ _ k in
    let limits = rw c.deref_mut.ensures.value at c.add_front-added.ensures.limits in
    let stands = rw (c.deref_mut.ensures.value, done.0, sym c.split_at.ensures.front) at c.add_front-added.ensures.entered in
    subst (HoldsRun columns eq t.wrapper.value r.begun)
    (sym (led_on columns r t _ limits refl c.note_text.ensures was live ∙ text_grown columns (block_of columns r) cs c.args.main_tag.now c.args.wrap_tag.now mode))
    (holds_grown _ _ _ _ _ k t.wrapper.value (map entry entries)
    (subst (IsAtProgress columns eq t.wrapper.value k.before far) (sym (entries_entered columns r.wrapper.value.lines.width entries _)) (stands k.before far _ k.stands)))

pub returns-clause-ok : goal.returns-clause-ok
returns-clause-ok g c =
    let columns = g.W.CharWidth.columns in let r = c.self.inside in
    let t = record r { wrapper = record r.wrapper { value = c.add_front-added.new.self }; failure = c.keep.new.failure; changes = c.note_text.new.changes } in
    let text = c.args.text.now in let n = c.in_ok-bytes.bytes in let mode = c.args.mode in
    let done = c.in_ok-bytes.ensures.ok in let fit = rw done.0 at c.add_front-added.ensures.front in
    let cs = chars c.split_at.result.0.now in
    let was = ap (λ (s : Block g.row.T.Denot). s.failure) c.self.view_is ∙ c.requires.unfailed in
    record {
      front = cs;
      split = ap chars (sym (take-append-drop n text)) ∙ chars-append (take n text) (drop n text) fit.utf8 ∙ (λ i. chars (sym c.split_at.ensures.front i) ++ chars (sym c.split_at.ensures.back i));
      is = led_on columns r t _ (rw c.deref_mut.ensures.value at c.add_front-added.ensures.limits) refl c.note_text.ensures was (done.1 ∙ was)
          ∙ text_grown columns (block_of columns r) cs c.args.main_tag.now c.args.wrap_tag.now mode
          ∙ ap (λ (s : Block g.row.T.Denot). grown s (map entry (text_entries cs c.args.main_tag.now c.args.wrap_tag.now mode))) c.self.view_is;
    }

pub returns-in_err-bytes-clause-too_narrow : goal.returns-in_err-bytes-clause-too_narrow
returns-in_err-bytes-clause-too_narrow g c = λ e.
    let k = c.self.invariant (ap (λ (s : Block g.row.T.Denot). s.failure) c.self.view_is ∙ c.requires.unfailed) in
    let p = err_from_is_err_and c.from_residual.result c.from_residual.ensures.1 in
    let is : c.add_front-added.result ≡ Err E.TooNarrow = cc (p.1, p.2, e, c.in_err-bytes.ensures.failed.0) in
    let wider = rw c.deref_mut.ensures.value at (c.add_front-added.ensures.wider is) _ _ _ k.stands in
    let entries : List (Entry g.row.T.Denot) = text_entries (chars c.args.text.now) c.args.main_tag.now c.args.wrap_tag.now c.args.mode in
    ap (λ (s : Block g.row.T.Denot). settled g.W.CharWidth.columns (grown s (map entry entries))) (sym c.self.view_is)
    ∙ refused_text g.W.CharWidth.columns (block_of g.W.CharWidth.columns c.self.inside) entries wider.0 wider.1

pub returns-clause-allowed : goal.returns-clause-allowed
returns-clause-allowed g c =
    let columns = g.W.CharWidth.columns in let r = c.self.inside in
    let t = record r { wrapper = record r.wrapper { value = c.add_front-added.new.self }; failure = c.keep.new.failure; changes = c.note_text.new.changes } in
    let cs = chars c.split_at.result.0.now in
    let entries : List (Entry g.row.T.Denot) = text_entries cs c.args.main_tag.now c.args.wrap_tag.now c.args.mode in
    let was = ap (λ (s : Block g.row.T.Denot). s.failure) c.self.view_is ∙ c.requires.unfailed in
    let k = c.self.invariant was in
    let limits = rw c.deref_mut.ensures.value at c.add_front-added.ensures.limits in
    let stands = rw (c.deref_mut.ensures.value, c.in_ok-bytes.ensures.ok.0, sym c.split_at.ensures.front) at c.add_front-added.ensures.entered in
    let here = stands k.before (given _ _ _ _ _ k) _ k.stands in
    subst (λ (s : Block g.row.T.Denot). allows columns s (lines columns s) ≡ true)
    (sym (led_on columns r t _ limits refl c.note_text.ensures was (c.in_ok-bytes.ensures.ok.1 ∙ was) ∙ text_grown columns (block_of columns r) cs c.args.main_tag.now c.args.wrap_tag.now c.args.mode))
    (entered_allows columns (block_of columns r) entries (rw limits.width at (rw limits.may_overflow at here.lays.measured.done)))

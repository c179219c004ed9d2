use Rattle.tbr_renderer.proofs.Common.{◌≡◌, Bool, refl, true, false, not, sym, ◌∙◌, rules}
use Rattle.tbr_renderer.proofs.AppendedLines.{all_more}
use Rattle.tbr_renderer.proofs.sub.appended.are_all.Goals as goal

unless_other : (b c : Bool) → b ≡ not c → b ≡ false → true ≡ c
unless_other b true h k = refl
unless_other b false h k = sym h ∙ k

pub loop-prefix-preserved : goal.loop-prefix-preserved
loop-prefix-preserved g c = search (rules, all_more, unless_other, c.loop-prefix-test.true, c.prefix-item.is, c.as_str.ensures, c.ne.ensures, c.if-ne.false, c.loop-prefix.invariant)

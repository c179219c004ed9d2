use Rattle.std.proofs.Common.{map, take, chars, string_bytes}
use Rattle.tbr_decor.specs.Usual.{AreFootnotes}
use Rattle.tbr_decor.proofs.usual.finalise.Given as goal

abbrev pub invariant-loop-place : goal.invariant-loop-place
invariant-loop-place g l = AreFootnotes g.A.Default.is_default (map (λ url. chars (string_bytes url)) (take l.place l.url-items)) l.lines.items

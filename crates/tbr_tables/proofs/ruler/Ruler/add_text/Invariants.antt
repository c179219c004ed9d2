use Rattle.std.proofs.Common.{◌≡◌, fold}
use Rattle.tbr_tables.specs.Ruler.{after_char}
use Rattle.tbr_tables.proofs.ruler.Ruler.add_text.Given as goal

abbrev pub invariant-loop-c : goal.invariant-loop-c
invariant-loop-c g l = l.self ≡ fold (after_char g.W.CharWidth.columns l.mode) l.initial.self l.yielded

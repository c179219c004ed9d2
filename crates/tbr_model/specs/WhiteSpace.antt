-- Modes of white space.
use Rattle.std.specs.Prelude.{Bool, true, false}
use Rattle.tbr_model.specs.declared.white_space.WhiteSpace.{WhiteSpace}
use Rattle.tbr_model.specs.declared.white_space.WhiteSpace.TheVariants.{Normal, Pre, PreWrap}

-- whether white space stays as it is
abbrev pub preserves : WhiteSpace → Bool
preserves Normal = false
preserves Pre = true
preserves PreWrap = true

-- What is written round the texts of files.
use Rattle.std.specs.Prelude.{ℕ, Bool, true, false, List, [], codes}
use Rattle.tbr_view.specs.declared.script.Format.{Format}
use Rattle.tbr_view.specs.declared.script.Format.TheVariants.{Html}
use Rattle.tbr_show.specs.declared.html.TheConstants.{BEGINNING, END}
use Rattle.blockview.specs.declared.output.Output.{Output}

-- before anything was written
abbrev pub nothing : Format → Output
nothing format = record { format = format; has_begun = false }

-- the beginning of a document of HTML, if none was begun
abbrev pub begins : Format → Bool → List ℕ
begins Html false = BEGINNING.now
begins other has_begun = []

-- its end, if one was begun
abbrev pub ends : Format → Bool → List ℕ
ends Html true = END.now
ends other has_begun = []

abbrev pub before : Output → List ℕ
before output = begins output.format output.has_begun

abbrev pub after : Output → List ℕ
after output = ends output.format output.has_begun

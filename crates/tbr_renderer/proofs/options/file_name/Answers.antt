use Rattle.tbr_renderer.proofs.Common.{rules}
use Rattle.tbr_renderer.proofs.Images.{name_alone, name_after}
use Rattle.tbr_renderer.proofs.options.file_name.Goals as goal

pub returns-in-Some : goal.returns-in-Some
returns-in-Some c = search (rules, name_after, c.in-Some.ensures.cases)

pub returns-in-None : goal.returns-in-None
returns-in-None c = name_alone c.args.src.now c.utf8.src c.in-None.ensures.cases

use Rattle.tbr_decor.specs.Prefix.{header}
use Rattle.tbr_program.proofs.Levels.{has_top}
use Rattle.tbr_c.proofs.Facts.{length_on_top}
use Rattle.tbr_c.proofs.page.Filled.heading_length.Goals as goal

pub returns : goal.returns
returns g c =
    let p = c.args.self.now.program in
    length_on_top (λ r. g.D.TextDecorator.prefix_text r.decorator (header c.args.level)) p.stack c.heading_length.result
    (has_top p.stack p.pending p.opened c.requires) (λ r. c.heading_length.ensures r.decorator)

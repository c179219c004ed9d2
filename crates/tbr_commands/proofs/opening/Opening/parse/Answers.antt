use Rattle.std.proofs.Common.{◌≡◌, rules}
use Rattle.tbr_script.specs.Script.{words_of}
use Rattle.tbr_commands.specs.Read.{opening_words, opening_read}
use Rattle.tbr_commands.proofs.Commands.{read_utf8}
use Rattle.tbr_commands.proofs.Reading.{opening_sized}
use Rattle.tbr_commands.proofs.opening.Opening.parse.Goals as goal

pub returns : goal.returns
returns c =
    let line = c.args.line.now in
    let reads = read_utf8 (λ bs. opening_words (words_of bs)) line c.utf8.line in
    let is : c.after_new.result ≡ opening_read line = search rules in
    let sized = opening_sized line c.after_new.result is in
    record { read = is; width = sized.0; wrap_width = sized.1 }

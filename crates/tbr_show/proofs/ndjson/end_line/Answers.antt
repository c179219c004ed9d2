use Rattle.tbr_show.proofs.Common.{[], ◌∷◌, end_object, end_array}
use Rattle.tbr_show.proofs.Appended.{one_after}
use Rattle.tbr_show.proofs.ndjson.end_line.Goals as goal

pub returns-clause-tokens : goal.returns-clause-tokens
returns-clause-tokens c =
    one_after c.args.writer.now.tokens (end_array ∷ []) (end_object ∷ []) c.end_array.new.self.tokens c.end_object.new.self.tokens
    c.in_ok-end_array.ensures.ok c.in_ok-end_object.ensures.ok

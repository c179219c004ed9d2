use Rattle.tbr_show.proofs.Common.{codes, begin_object, begin_array, key, columns_tokens}
use Rattle.json.specs.Token.{boolean}
use Rattle.tbr_show.proofs.Appended.{beginning_written}
use Rattle.tbr_show.proofs.ndjson.begin_line.Goals as goal

pub returns-clause-tokens : goal.returns-clause-tokens
returns-clause-tokens c =
    beginning_written c.args.writer.now.tokens c.begin_object.new.self.tokens c.key.new.self.tokens c.boolean.new.self.tokens c.write_columns.new.writer.tokens
    c.key-2.new.self.tokens c.begin_array.new.self.tokens
    begin_object (key (codes "border")) (boolean c.args.is_border) (key (codes "pieces")) begin_array (columns_tokens c.args.columns)
    c.in_ok-begin_object.ensures.ok c.in_ok-key.ensures.ok c.in_ok-boolean.ensures.ok c.in_ok-write_columns.ensures.tokens c.in_ok-key-2.ensures.ok c.in_ok-begin_array.ensures.ok

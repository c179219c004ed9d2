use Rattle.tbr_show.proofs.Common.{codes, flat_map, begin_object, end_object, begin_array, end_array, key, annotation_tokens, columns_tokens}
use Rattle.json.specs.Token.{string}
use Rattle.tbr_show.proofs.Appended.{object_written}
use Rattle.tbr_show.proofs.ndjson.write_piece.Goals as goal

pub returns-clause-tokens : goal.returns-clause-tokens
returns-clause-tokens c =
    object_written c.args.writer.now.tokens c.begin_object.new.self.tokens c.key.new.self.tokens c.string.new.self.tokens c.write_columns.new.writer.tokens
    c.key-2.new.self.tokens c.begin_array.new.self.tokens c.write_annotations.new.writer.tokens c.end_array.new.self.tokens c.end_object.new.self.tokens
    begin_object (key (codes "text")) (string c.args.piece.now) (key (codes "annotations")) begin_array end_array end_object
    (columns_tokens c.args.columns) (flat_map annotation_tokens c.args.annotations.now)
    c.in_ok-begin_object.ensures.ok c.in_ok-key.ensures.ok c.in_ok-string.ensures.ok
    c.in_ok-write_columns.ensures.tokens c.in_ok-key-2.ensures.ok c.in_ok-begin_array.ensures.ok
    c.in_ok-write_annotations.ensures.tokens c.in_ok-end_array.ensures.ok c.in_ok-end_object.ensures.ok

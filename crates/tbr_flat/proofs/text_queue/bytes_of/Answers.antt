use Rattle.tbr_flat.proofs.Common.{arith, rules}
use Rattle.std.proofs.Common.{length-take-le}
use Rattle.tbr_flat.proofs.TextBytes.{read_next, read_len, chars_within, ascii_bytes}
use Rattle.tbr_flat.proofs.text_queue.bytes_of.Goals as goal

pub slice_bounds-is_ascii-end : goal.slice_bounds-is_ascii-end
slice_bounds-is_ascii-end c = search (rules, chars_within, length-take-le, c.requires, c.as_bytes.ensures.value)

pub returns-then-is_ascii : goal.returns-then-is_ascii
returns-then-is_ascii c = search (rules, chars_within, ascii_bytes, c.requires, c.as_bytes.ensures.value, c.if-is_ascii.ensures.cases)

pub loop-preserved : goal.loop-preserved
loop-preserved c =
    read_next _ c.args.text.now c.loop.rest.rest.now c.next.new.self.rest.now c.loop.counter c.args.count c.next.result c.loop.invariant (omega arith) c.requires c.next.ensures.steps.0

pub returns : goal.returns
returns c = search (rules, read_len, c.loop-test.false, c.loop.invariant, c.as_str.ensures)

use Rattle.tbr_flat.proofs.Common.{◌≡◌, ◌≤◌, length, take, chars, width_of_text}
use lib.Utf8.{encodes}
use Rattle.tbr_flat.proofs.TextBytes.{IsRead}
use Rattle.tbr_flat.proofs.text_queue.fitting.Given as goal

abbrev pub invariant-loop-front : goal.invariant-loop-front
invariant-loop-front g l = record {
  read : IsRead l.text l.rest.rest.now l.front.count;
  bytes : l.front.bytes ≡ length (encodes (take l.front.count (chars l.text)));
  within : l.front.count ≤ length (chars l.text);
  most : l.front.count ≤ l.most;
  columns : l.front.columns ≡ width_of_text g.W.CharWidth.columns (take l.front.count (chars l.text));
  room : l.front.columns ≤ l.room;
}

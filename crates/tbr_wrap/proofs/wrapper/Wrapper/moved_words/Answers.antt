use Rattle.tbr_wrap.proofs.Common.{false, refl, arith}
use Rattle.std.proofs.Common.{length-take}
use Rattle.tbr_wrap.proofs.words.PlainWords.{fewer_join}
use Rattle.tbr_wrap.proofs.words.PlainText.{plain_parts}
use Rattle.tbr_wrap.proofs.wrapper.Wrapper.moved_words.Goals as goal

pub returns-clause-moved : goal.returns-clause-moved
returns-clause-moved g c = λ some.
    let text = c.args.text.now in let n = c.words_in_front-words.result.0 in let columns = g.W.CharWidth.columns in
    record {
      words = c.words_in_front-words.ensures.words some;
      space = c.drops_space.ensures.0 c.if-not-drops_space.false;
      first = c.args.read;
      letters = fewer_join columns c.args.read n text (plain_parts columns false _ (g.met.W.CharWidth.drawn_in_one 32 refl) c.requires).join;
      wide = omega (arith, c.in-Some.ensures, c.if-read-room.false);
      fits = omega (arith, c.in-Some.ensures, c.words_in_front-words.ensures.room, length-take n text);
    }

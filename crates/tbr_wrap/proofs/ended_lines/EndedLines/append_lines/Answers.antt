use Rattle.tbr_wrap.proofs.Common.{◌≡◌, ℕ, List, ◌∷◌, ◌++◌, length, ap, sym, ◌∙◌, arith, append_assoc, append-nil, rules, Item, eqb-true, chars_of, prefixed_characters, nil_from_length}
use Rattle.std.specs.Prelude.{chars}
use Rattle.std.proofs.lemmas.Bool.{eqb-false}
use Rattle.tbr_wrap.specs.EndedLines.{line_characters}
use Rattle.tbr_wrap.proofs.runs.LinesLeft.{first_of}
use Rattle.tbr_wrap.proofs.ended_lines.EndedLines.append_lines.Goals as goal

pub loop-prefix-smaller : goal.loop-prefix-smaller
loop-prefix-smaller g c =
    let f = first_of c.loop-prefix.self (λ none. eqb-false _ 0 (sym c.is_empty.ensures ∙ c.loop-prefix-test.true) (ap length none)) in
    omega (arith, ap length f.2, ap length (c.in_ok-append_line.ensures f.0 f.1 f.2).1)

one_more : {A : Type 0} (text mid new prefix others : List ℕ) (is : List (Item A)) (rest all now : List (List (Item A))) → all ≡ is ∷ rest → now ≡ rest →
    mid ≡ text ++ prefix → new ≡ mid ++ line_characters is → new ++ prefixed_characters others others now ≡ text ++ prefixed_characters prefix others all
one_more text mid new prefix others is rest all now first left before written = search (rules, append_assoc)

pub loop-prefix-preserved : goal.loop-prefix-preserved
loop-prefix-preserved g c =
    let f = first_of c.loop-prefix.self (λ none. eqb-false _ 0 (sym c.is_empty.ensures ∙ c.loop-prefix-test.true) (ap length none)) in
    let k = c.in_ok-append_line.ensures f.0 f.1 f.2 in record {
      text =
          one_more (chars_of c.loop-prefix.text) (chars_of c.append_prefix.new.text) (chars_of c.append_line.new.text)
          (chars c.loop-prefix.prefix.now) (chars c.args.others.now) f.0 f.1 c.loop-prefix.self
          c.append_line.new.self f.2 k.1 c.in_ok-append_prefix.ensures k.0
          ∙ c.loop-prefix.invariant.text;
      utf8 = c.utf8.others;
    }

pub returns : goal.returns
returns g c = search (rules, nil_from_length, eqb-true, append-nil, c.is_empty.ensures, c.loop-prefix-test.false, c.loop-prefix.invariant.text)

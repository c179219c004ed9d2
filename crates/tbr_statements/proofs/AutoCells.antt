-- A cell that finds its width is no command of `blockrender`.
use Rattle.std.proofs.Common.{◌≡◌, ℕ, ◌^◌, ◌&&◌, Bool, true, false, None, List, [], ◌∷◌, ◌++◌, codes, drop, length, refl, ap, ◌∙◌}
use Rattle.std.specs.Prelude.{nat_eq, nat_lt}
use Rattle.std.specs.List.{starts_with}
use Rattle.std.specs.Option.{option_map, option_and_then}
use Rattle.std.specs.Str.{is_utf8}
use Rattle.std.specs.Str.Parse.{digits_value}
use Rattle.std.proofs.lemmas.Bool.Decides.{Decides-eqb}
use Rattle.std.proofs.lemmas.Slice.Eq.{starts_is}
use Rattle.tbr_script.specs.Script.{words_of, onto_first}
use Rattle.tbr_script.specs.Read.{when, all_digits, size_read}
use Rattle.tbr_script.proofs.Reading.{test, if_so, if_not}
use Rattle.tbr_commands.specs.Command.{cell}
use Rattle.tbr_commands.specs.Read.{alignment_of, cell_of, line_read, command_read}

-- no size begins with the letter `a`
no_size : (word : List ℕ) → size_read (97 ∷ word) ≡ None
no_size word = go (nat_lt 0 (length (97 ∷ word)))
  where
    value : ℕ
    value = digits_value 10 (97 ∷ word)

    go : (b : Bool) → when (((b && all_digits 10 (97 ∷ word)) && nat_lt value (2 ^ 64)) && nat_lt 0 value) value ≡ None
    go true = refl
    go false = refl

no_cell : (words : List (List ℕ)) → cell_of (onto_first 97 words) ≡ None
no_cell [] = refl
no_cell (word ∷ []) = refl
no_cell (word ∷ other ∷ words) =
    ap (option_and_then (λ width. option_and_then (λ span. option_map (λ align. cell width span align) (alignment_of words)) (size_read other))) (no_size word)

no_line : (rest : List ℕ) → line_read (codes "cell auto" ++ rest) ≡ None
no_line rest = no_cell (words_of (codes "uto" ++ rest))

pub no_command : (line : List ℕ) → starts_with nat_eq line (codes "cell auto") ≡ true → command_read line ≡ None
no_command line begins =
    test (is_utf8 line)
    (λ so.
    let is = (starts_is Decides-eqb line (codes "cell auto") _ refl).0 begins in
    if_so (is_utf8 line) (line_read line) None so ∙ ap line_read is ∙ no_line (drop (length (codes "cell auto")) line))
    (λ not. if_not (is_utf8 line) (line_read line) None not)

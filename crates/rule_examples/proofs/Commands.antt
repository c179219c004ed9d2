-- Whole scripts, from their bytes to those of their text, or to their refusal with its line.
use Rattle.rule_examples.proofs.Common.{◌≡◌, [], refl, Ok, codes, rendered, example_columns}
use Rattle.std.specs.Str.{chars, is_utf8}
use Rattle.std.specs.Fmt.{digits}
use Rattle.std.proofs.Math.Utf8.{encode}
use Rattle.std.proofs.Common.{Err}
use Rattle.std.specs.Prelude.{encode_utf8_all}
use Rattle.tbr_script.specs.declared.error.RunError.TheVariants.{NotACommand, NothingToEnd}

-- each link has its number, and its target stands at the end
pub two_links_have_their_footnotes :
    rendered example_columns (codes "new 20 plain footnotes\nlink a\ntext x\nendlink\nlink b\ntext y\nendlink\n")
    ≡ Ok (codes "[x][1][y][2]\n\n[1]: a\n[2]: b\n")
unfolding chars digits encode is_utf8
two_links_have_their_footnotes = refl

-- a link around another ends with its own number
pub a_link_around_another_ends_with_its_own_number :
    rendered example_columns (codes "new 20 plain footnotes\nlink a\ntext x\nlink b\ntext y\nendlink\nendlink\n")
    ≡ Ok (codes "[x[y][2]][1]\n\n[1]: a\n[2]: b\n")
unfolding chars digits encode is_utf8
a_link_around_another_ends_with_its_own_number = refl

-- a link goes on after a block in which one is open
pub a_link_goes_on_after_a_block :
    rendered example_columns (codes "new 20 plain footnotes\nlink a\nsub 9\nlink b\ntext y\nappend  | \nendlink\n")
    ≡ Ok (codes "[\n[y\n][1]\n\n[1]: a\n[2]: b\n")
unfolding chars digits encode is_utf8
a_link_goes_on_after_a_block = refl

-- cells below one another
pub two_cells_below_one_another :
    rendered example_columns (codes "new 4 plain\ncell 4 1\ntext a\nendcell\ncell 4 1\ntext b\nendcell\nvrow\n")
    ≡ Ok (encode_utf8_all (codes "a\n////\nb\n────\n"))
unfolding chars digits encode is_utf8
two_cells_below_one_another = refl

-- links in cells side by side, under a border
pub links_in_cells_have_their_footnotes :
    rendered example_columns
    (codes "new 20 plain footnotes\nborder 13\ncell 6 1\nlink a\ntext x\nendlink\nendcell\ncell 6 1\nlink b\ntext y\nendlink\nendcell\nrow\n")
    ≡ Ok (encode_utf8_all (codes "──────┬──────\n[x][1]│[y][2]\n──────┴──────\n\n[1]: a\n[2]: b\n"))
unfolding chars digits encode is_utf8
links_in_cells_have_their_footnotes = refl

-- an escape names a character, and empty lines are skipped
pub an_escape_is_a_character : rendered example_columns (codes "\nnew 9 rich\n\ntext a\\u{62}c") ≡ Ok (codes "abc\n")
unfolding chars digits encode is_utf8
an_escape_is_a_character = refl

-- ---- what is refused, with its line

pub a_block_ends_no_cell : rendered example_columns (codes "new 8 plain\ncell 3 1\nappend > | >\n") ≡ Err (NothingToEnd 3)
unfolding chars digits encode is_utf8
a_block_ends_no_cell = refl

pub a_cell_ends_once : rendered example_columns (codes "new 8 plain\ncell 3 1\nendcell\nendcell\n") ≡ Err (NothingToEnd 4)
unfolding chars digits encode is_utf8
a_cell_ends_once = refl

pub a_cell_waits_at_the_end_of_a_block :
    rendered example_columns (codes "new 9 plain\nsub 5\ncell 3 1\nendcell\nappend > | >\n") ≡ Err (NotACommand 5)
unfolding chars digits encode is_utf8
a_cell_waits_at_the_end_of_a_block = refl

pub a_bad_escape_is_no_command : rendered example_columns (codes "new 9 plain\ntext \\q\n") ≡ Err (NotACommand 2)
unfolding chars digits encode is_utf8
a_bad_escape_is_no_command = refl

pub an_empty_script_has_no_first_command : rendered example_columns [] ≡ Err (NotACommand 1)
unfolding chars digits encode is_utf8
an_empty_script_has_no_first_command = refl

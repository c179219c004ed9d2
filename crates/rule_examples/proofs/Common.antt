-- The names that most proofs here cite, passed on from one place. It declares nothing.
pub use Rattle.std.proofs.Common.{List, None, Ok, [], ap, false, refl, sym, true, ℕ, ◌++◌, ◌∙◌, ◌∷◌, ◌≡◌}
pub use Rattle.std.proofs.Math.Utf8.{encode}
pub use Rattle.std.specs.Fmt.{digits}
pub use Rattle.std.specs.Prelude.{codes}
pub use Rattle.std.specs.Str.{chars, is_utf8}
pub use Rattle.rule_examples.specs.Scripts.{example_columns, flush, line, lines_in, lines_of, made, mark, overflowing_lines_in, text}
pub use Rattle.rule_examples.specs.Tables.{after_rows, cell, lines_on, page_under_border, plain_page}
pub use Rattle.tbr_kept_lines.specs.Line.{border}
pub use Rattle.tbr_model.specs.Codes.{no_break_space, zero_width_space}
pub use Rattle.tbr_model.specs.Run.{marker}
pub use Rattle.tbr_model.specs.Width.{stroke}
pub use Rattle.tbr_model.specs.declared.white_space.WhiteSpace.{WhiteSpace}
pub use Rattle.tbr_model.specs.declared.white_space.WhiteSpace.TheVariants.{Normal, Pre, PreWrap}
pub use Rattle.tbr_program.specs.Decorations.{plain_decoration}
pub use Rattle.tbr_renderer.specs.Calls.{add_inline_text, new_line}
pub use Rattle.tbr_renderer.specs.Options.{default_options}
pub use Rattle.tbr_renderer.specs.Outcomes.{and_then}
pub use Rattle.tbr_renderer.specs.Renderer.{new_renderer}
pub use Rattle.tbr_runner.specs.Scripts.{rendered}
pub use Rattle.tbr_tagged.specs.Outcome.{done}
pub use Rattle.tbr_wrap.specs.Block.{new_block}
pub use Rattle.text_block_renderer.specs.Acts.{call}

-- The names that most proofs here cite, passed on from one place. It declares nothing.
pub use Rattle.std.proofs.Common.{Bool, List, None, Ok, Option, Some, [], ap, append_assoc, arith, chars, inl, inr, length, refl, rules, subst, sym, take, true, ℕ, ◌++◌, ◌+◌, ◌-◌, ◌∙◌, ◌∷◌}
pub use Rattle.std.proofs.Common.{◌≡◌}
pub use Rattle.std.proofs.lemmas.Result.{on_ok_weaker}
pub use Rattle.std.specs.Global.{Vec}
pub use Rattle.std.specs.Prelude.{OnOk, false}
pub use Rattle.std.specs.String.{string_bytes}
pub use Rattle.tbr_commands.specs.Command.{ask, command_of}
pub use Rattle.tbr_commands.specs.Request.{layout}
pub use Rattle.tbr_commands.specs.declared.request.layout.Layout.TheVariants.{StartBlock}
pub use Rattle.tbr_decor.specs.Decoration.{Decoration, decoration_of}
pub use Rattle.tbr_model.specs.Codes.{newline_character}
pub use Rattle.tbr_model.specs.Width.{width_of_text}
pub use Rattle.tbr_program.specs.Progress.{GoesOn}
pub use Rattle.tbr_recorded.specs.Drawn.{after_each}
pub use Rattle.tbr_recorded.specs.Script.{TableScript, with_bare}
pub use Rattle.tbr_script.specs.Lines.{bytes_of}
pub use Rattle.tbr_script.specs.Script.{lines_of}
pub use Rattle.tbr_script.specs.declared.text_pair.TextPair.{TextPair}
pub use Rattle.tbr_stack.specs.Stack.{top_of}
pub use Rattle.tbr_statements.specs.Block.{other_prefix, stands_apart}
pub use Rattle.tbr_statements.specs.Level.{Known, Leaves, held, known_in, left, noted}
pub use Rattle.tbr_statements.specs.declared.level.Level.{Level}
pub use Rattle.tbr_statements.specs.declared.level.Levels.{Levels}
pub use Rattle.tbr_statements.specs.declared.level.Opener.{Opener}
pub use Rattle.tbr_statements.specs.declared.level.Opener.TheVariants.{Block as OfBlock}
pub use Rattle.tbr_statements.specs.declared.statement.Statement.{Statement}
pub use Rattle.tbr_tagged.specs.View.{chars_of}
pub use Rattle.tbr_view.specs.Lines.{DoesOutside, LinesDo}
pub use Rattle.tbr_view.specs.Script.{AreSkipped}
pub use Rattle.tbr_view.specs.Session.{BlockAppends, BlockCloses, DoesIf, opened_by, openers, state_of}
pub use Rattle.tbr_view.specs.Shown.{AreShown, ShowsLine}
pub use Rattle.tbr_view.specs.Tables.{DoesInTable, Place, drawn_made, kept, place_of}

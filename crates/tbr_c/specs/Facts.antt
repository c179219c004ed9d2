-- What a program answers of its innermost level.
use Rattle.std.specs.Prelude.{ℕ, ◌-◌, max, nat_lt, ◌&&◌, if◌then◌else◌, Result, Ok, Err, true, false, not, ◌==◌, unwrap_or, List, length}
use Rattle.std.specs.Option.{option_map}
use Rattle.tbr_tagged.specs.UnicodeColumns.{unicode_columns}
use Rattle.tbr_renderer.specs.Renderer.{Renderer}
use Rattle.tbr_renderer.specs.Steps.{is_empty}
use Rattle.tbr_stack.specs.Stack.{Stack, top_of}
use Rattle.tbr_stack.specs.Links.{open_links}
use Rattle.tbr_program.specs.Progress.{Progress}
use Rattle.tbr_c_lines.specs.declared.fault.Fault.{Fault}
use Rattle.tbr_c_lines.specs.declared.fault.Fault.TheVariants.{TooNarrow}
use Rattle.tbr_c.specs.declared.page.Facts.{Facts}

-- what is asked of the renderer on top of a stack, which always has one
abbrev pub on_top : {R X : Type 0} → X → (R → X) → Stack R → X
on_top none ask s = unwrap_or (option_map ask (top_of s)) none

-- the facts of a program
abbrev pub facts_in : {D A : Type 0} → Progress D A (List A) → Facts
facts_in p = record {
  width = on_top 0 (λ r. r.width) p.stack;
  is_empty = on_top true (λ r. is_empty unicode_columns r) p.stack;
  has_overhang = on_top false (λ r. not (length r.hanging == 0)) p.stack;
  open_levels = length p.opened;
  open_links = length (open_links p.stack);
  waiting_cells = length p.pending.cells;
}

-- there are too few
abbrev pub no_columns : Result ℕ Fault
no_columns = Err TooNarrow

-- The columns that are left after a prefix, but at least so many. It is too narrow where fewer are left, and no line may
-- be wider.
abbrev pub columns_left : {D A T : Type 0} → ℕ → ℕ → Renderer D A T → Result ℕ Fault
columns_left prefix least r =
    if nat_lt (r.width - prefix) least && not r.options.allow_width_overflow then no_columns
    else Ok (max least (r.width - prefix))

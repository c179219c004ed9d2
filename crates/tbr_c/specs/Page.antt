-- A renderer into which calls go, under one of three decorators.
use Rattle.std.specs.Prelude.{◌≡◌, ℕ, Bool, Result, List, [], encode_utf8_all}
use Rattle.std.specs.Result.{result_map_both}
use Rattle.tbr_tagged.specs.UnicodeColumns.{unicode_columns}
use Rattle.tbr_decor.specs.Prefix.{Prefix}
use Rattle.tbr_script.specs.declared.error.RunError.{RunError}
use Rattle.tbr_commands.specs.Command.{Command}
use Rattle.tbr_commands.specs.declared.opening.Decorator.{Decorator}
use Rattle.tbr_commands.specs.declared.opening.Decorator.TheVariants as decorator
use Rattle.tbr_commands.specs.declared.opening.Opening.{Opening}
use Rattle.tbr_program.specs.Progress.{GoesOn}
use Rattle.tbr_program.specs.Decorations.{plain_decoration, trivial_decoration, rich_decoration}
use Rattle.tbr_program.specs.Commands.{ended, started}
use Rattle.tbr_program.specs.Safe.{shown_links}
use Rattle.tbr_recorded.specs.Script.{TableScript}
use Rattle.tbr_recorded.specs.Texts.{noted}
use Rattle.tbr_recorded.specs.declared.texts.Texts.{Texts}
use Rattle.tbr_c_lines.specs.declared.fault.Fault.{Fault}
use Rattle.tbr_c.specs.declared.page.Page.{Page}
use Rattle.tbr_c.specs.declared.page.Page.TheVariants.{Plain, Trivial, Rich}
use Rattle.tbr_c.specs.declared.page.Facts.{Facts}
use Rattle.tbr_c.specs.Drawing.{drawing, shown_made}
use Rattle.tbr_c.specs.Facts.{on_top, facts_in, columns_left, no_columns}

-- its program goes on
abbrev pub PageGoesOn : Page → Type 0
PageGoesOn (Plain f) = GoesOn f.program
PageGoesOn (Trivial f) = GoesOn f.program
PageGoesOn (Rich f) = GoesOn f.program

-- ---- what begins

-- what decides what calls write, before any
abbrev pub texts_of : Opening → Texts
texts_of opening = record { decorator = opening.decorator; options = opening.options; links = 0 }

-- Nothing was called yet after this first command of a script, and the renderer is raw or not.
abbrev pub page_under : Decorator → Opening → (raw : Bool) → Page
page_under decorator.Plain opening raw =
    Plain (record { program = started opening (record {}); raw = raw; texts = texts_of opening })
page_under decorator.Trivial opening raw =
    Trivial (record { program = started opening (record {}); raw = raw; texts = texts_of opening })
page_under decorator.Rich opening raw =
    Rich (record { program = started opening (record {}); raw = raw; texts = texts_of opening })

abbrev pub new_page : Opening → (raw : Bool) → Page
new_page opening raw = page_under opening.decorator opening raw

-- ---- what calls make of it

-- what is made where something is, and else the refusal
abbrev pub if_made : {X Y E : Type 0} → (X → Y) → Result X E → Result Y E
if_made change made = result_map_both change (λ e. e) made

-- What a command makes of it, as in a script. Where it isn't raw, prefixes have no control characters.
abbrev pub page_after : Command → Page → Result Page RunError
page_after command (Plain f) =
    if_made (λ p. Plain (record f { program = p; texts = noted command f.texts }))
    (shown_made plain_decoration f.raw command f.program)
page_after command (Trivial f) =
    if_made (λ p. Trivial (record f { program = p; texts = noted command f.texts }))
    (shown_made trivial_decoration f.raw command f.program)
page_after command (Rich f) =
    if_made (λ p. Rich (record f { program = p; texts = noted command f.texts }))
    (shown_made rich_decoration f.raw command f.program)

-- what the commands of a recorded table make of it
abbrev pub page_drawn : TableScript → Page → Result Page RunError
page_drawn script (Plain f) =
    if_made (λ p. Plain (record f { program = p; texts = script.texts }))
    (drawing plain_decoration f.raw script f.program)
page_drawn script (Trivial f) =
    if_made (λ p. Trivial (record f { program = p; texts = script.texts }))
    (drawing trivial_decoration f.raw script f.program)
page_drawn script (Rich f) =
    if_made (λ p. Rich (record f { program = p; texts = script.texts }))
    (drawing rich_decoration f.raw script f.program)

-- What its end gives, as that of a script: its text, with the footnotes of its links, or a refusal. Where it isn't raw,
-- targets are listed there without control characters.
abbrev pub page_end : Page → Result (List ℕ) RunError
page_end (Plain f) = ended unicode_columns plain_decoration 0 (shown_links f.raw f.program)
page_end (Trivial f) = ended unicode_columns trivial_decoration 0 (shown_links f.raw f.program)
page_end (Rich f) = ended unicode_columns rich_decoration 0 (shown_links f.raw f.program)

-- ---- what is asked of it

-- what it answers of itself and of its innermost level
abbrev pub page_facts : Page → Facts
page_facts (Plain f) = facts_in f.program
page_facts (Trivial f) = facts_in f.program
page_facts (Rich f) = facts_in f.program

-- No level is open, and no cell waits.
abbrev pub IsPageClosed : Page → Type 0
IsPageClosed p = let facts = page_facts p in (facts.open_levels ≡ 0) × (facts.waiting_cells ≡ 0)

-- what decides what calls write
abbrev pub page_texts : Page → Texts
page_texts (Plain f) = f.texts
page_texts (Trivial f) = f.texts
page_texts (Rich f) = f.texts

-- the bytes of a prefix of the decorator
abbrev pub page_prefix : Prefix → Page → List ℕ
page_prefix asked (Plain f) =
    let p = f.program in encode_utf8_all (on_top [] (λ r. plain_decoration.prefix_text r.decorator asked) p.stack)
page_prefix asked (Trivial f) =
    let p = f.program in encode_utf8_all (on_top [] (λ r. trivial_decoration.prefix_text r.decorator asked) p.stack)
page_prefix asked (Rich f) =
    let p = f.program in encode_utf8_all (on_top [] (λ r. rich_decoration.prefix_text r.decorator asked) p.stack)

-- the columns of the innermost level that are left after a prefix, but at least so many
abbrev pub page_width_left : ℕ → ℕ → Page → Result ℕ Fault
page_width_left prefix least (Plain f) =
    let p = f.program in on_top no_columns (columns_left prefix least) p.stack
page_width_left prefix least (Trivial f) =
    let p = f.program in on_top no_columns (columns_left prefix least) p.stack
page_width_left prefix least (Rich f) =
    let p = f.program in on_top no_columns (columns_left prefix least) p.stack

-- Where a script for people is, by where its program is and its levels.
use Rattle.tbr_view.proofs.Common.{◌≡◌, ℕ, ◌-◌, true, false, Option, None, Some, List, [], ◌∷◌, ◌++◌, take, length, refl, ap, sym, subst, ◌∙◌, arith, width_of_text, chars_of, Decoration}
use Rattle.tbr_view.proofs.Common.{top_of, lines_of, TextPair, StartBlock, layout, ask, command_of, Level, Opener, OfBlock, other_prefix, stands_apart, Known, Leaves, left, noted, openers}
use Rattle.tbr_view.proofs.Common.{state_of, opened_by, DoesIf, BlockAppends, BlockCloses, Place, LinesDo}
use Rattle.std.proofs.Common.{◌<◌, slice_get}
use Rattle.std.specs.Prelude.{IfSome, IfNone}
use Rattle.std.proofs.lemmas.List.{map-append, take-map, length-map, length_push, get_or_push, take_at}
use Rattle.std.proofs.lemmas.Option.{slice_get-map, slice_get-get_or}
use Rattle.std.proofs.lemmas.Slice.Eq.{bytes_eq-Decides}
use Rattle.tbr_renderer.specs.Renderer.{Renderer}
use Rattle.tbr_commands.specs.declared.command.Command as declared
use Rattle.tbr_commands.specs.declared.command.Command.TheVariants as asked
use Rattle.tbr_commands.specs.Command.{sub}
use Rattle.tbr_program.specs.Progress.{Progress}
use Rattle.tbr_statements.specs.declared.block.Block.{Block}
use Rattle.tbr_statements.specs.declared.level.Notes.{Notes}
use Rattle.tbr_statements.specs.Block.{prefix_of, end_of}
use Rattle.tbr_statements.specs.Level.{innermost, opener_of, may_not_append, is_closed_by, known_outside}
use Rattle.tbr_view.specs.Session.{CommandDoes, Commands, BlockOpens}
use Rattle.tbr_view.specs.Lines.{LineDoes}

-- ---- lists of levels

abbrev opener : Level → Opener
opener level = level.by

pub innermost_opener : (levels : List Level) → innermost (openers levels) ≡ opener_of (innermost levels)
innermost_opener levels =
    ap (λ n. innermost_at (n - 1)) (length-map levels opener) ∙ slice_get-map opener levels (length levels - 1)
  where
    innermost_at : ℕ → Option Opener
    innermost_at n = slice_get (openers levels) n

pub innermost_last : {X : Type 0} (xs : List X) (x : X) → innermost (xs ++ x ∷ []) ≡ Some x
innermost_last xs x =
    let below : length (xs ++ x ∷ []) - 1 < length (xs ++ x ∷ []) = omega (arith, length_push xs x) in
    slice_get-get_or (xs ++ x ∷ []) (length (xs ++ x ∷ []) - 1) x below
    ∙ ap Some (get_or_push xs x x (length (xs ++ x ∷ []) - 1) (omega (arith, length_push xs x)))

pub none_inside : {X : Type 0} (xs : List X) → innermost xs ≡ None → xs ≡ []
none_inside [] none = refl
none_inside (x ∷ xs) none =
    let some = slice_get-get_or (x ∷ xs) (length (x ∷ xs) - 1) x (omega arith) in
    absurd cc

pub openers_push : (levels : List Level) (level : Level) → openers (levels ++ level ∷ []) ≡ openers levels ++ level.by ∷ []
openers_push levels level = map-append opener levels (level ∷ [])

openers_left : (levels : List Level) → openers (take (length levels - 1) levels) ≡ take (length (openers levels) - 1) (openers levels)
openers_left levels =
    sym (take-map opener (length levels - 1) levels) ∙ ap (λ n. take (n - 1) (openers levels)) (sym (length-map levels opener))

pub openers_noted : (known : Known) (line : ℕ) (command : declared.Command) → (let next = noted known line command in openers next.inside) ≡ opened_by command (openers known.inside)
openers_noted known line (asked.Ask request) = refl
openers_noted known line (asked.Link target) = refl
openers_noted known line asked.EndLink = refl
openers_noted known line (asked.Sub width) = openers_push known.inside _
openers_noted known line (asked.Append prefixes) = openers_left known.inside
openers_noted known line (asked.Cell cell) = openers_push known.inside _
openers_noted known line asked.EndCell = openers_left known.inside
openers_noted known line (asked.Row collapse) = refl
openers_noted known line asked.VerticalRow = refl

-- the level that closed was the innermost
pub openers_last : (old new : List Level) (by : Opener) (notes known : Notes) → Leaves old notes by new known → openers old ≡ openers new ++ by ∷ []
openers_last old new by notes known leaves =
    let level : Level = record { by = by; line = leaves.line; outside = leaves.outside } in
    ap openers leaves.last ∙ openers_push new level

-- the command that closes a block is its end
pub ends_with : (old new : List Level) (block : Block) (texts : TextPair) (by : List ℕ) (notes known : Notes) → is_closed_by by (innermost old) ≡ true →
    Leaves old notes (OfBlock block texts) new known → end_of block ≡ by
ends_with old new block texts by notes known closed leaves =
    let level : Level = record { by = OfBlock block texts; line = leaves.line; outside = leaves.outside } in
    let is : innermost old ≡ Some level = ap innermost leaves.last ∙ innermost_last new level in
    (bytes_eq-Decides (end_of block) by).0 (ap (is_closed_by by) (sym is) ∙ closed)

same_known : (old new : Known) → new.inside ≡ take (length old.inside - 1) old.inside → new.notes ≡ known_outside (innermost old.inside) old.notes → new ≡ left old
same_known old new inside notes =
    let With : List Level → Notes → Known = λ levels known. record { inside = levels; notes = known } in
    ap (λ levels. With levels new.notes) inside ∙ ap (With (take (length old.inside - 1) old.inside)) notes

-- a level that closed, if one was open
pub is_left : (old new : Known) (by : Option Opener) →
    IfSome by (λ b. Leaves old.inside old.notes b new.inside new.notes) →
    IfNone by ((old.inside ≡ []) × (new.inside ≡ []) × (new.notes ≡ old.notes)) → new ≡ left old
is_left old new None leaves none =
    same_known old new (rw none.0 none.1) (rw none.0 none.2)
is_left old new (Some by) leaves none =
    let level : Level = record { by = by; line = leaves.line; outside = leaves.outside } in
    let one_less : length new.inside ≡ length old.inside - 1 = omega (arith, ap length leaves.last, length_push new.inside level) in
    let inside = sym (take_at new.inside (level ∷ []) (length old.inside - 1) one_less) ∙ ap (take (length old.inside - 1)) (sym leaves.last) in
    let last : Some level ≡ innermost old.inside = sym (innermost_last new.inside level) ∙ ap innermost (sym leaves.last) in
    same_known old new inside (leaves.keeps ∙ ap (λ l. known_outside l old.notes) last)

-- ---- steps

module _ {D A : Type 0} (columns : ℕ → Option ℕ) (decoration : Decoration D A) where
  module _ (p q : Progress D A (List A)) (old new : List Level) where
    pub commanded : (command : declared.Command) (here there : Progress D A (List A)) → here ≡ p → q ≡ there → may_not_append command (opener_of (innermost old)) ≡ false →
        CommandDoes columns decoration here (command_of command) there → openers new ≡ opened_by command (openers old) →
        Commands columns decoration (state_of p old) command (state_of q new)
    commanded command here there is_here is_there may does levels =
        let Leads : Progress D A (List A) → Progress D A (List A) → Type 0 = λ x y. CommandDoes columns decoration x (command_of command) y in
        record {
          may = ap (may_not_append command) (innermost_opener old) ∙ may;
          does = subst (λ x. Leads x q) is_here (subst (λ y. Leads here y) (sym is_there) does);
          levels = levels;
        }

    pub block_opens : (block : Block) (texts : TextPair) (r top : Renderer D A (List A)) (apart : Progress D A (List A)) (n : ℕ) → top_of p.stack ≡ Some r → top_of p.stack ≡ Some top →
        chars_of texts.first ≡ decoration.prefix_text r.decorator (prefix_of block) → chars_of texts.second ≡ other_prefix columns block (chars_of texts.first) →
        width_of_text columns (chars_of texts.first) < top.width → n ≡ top.width - width_of_text columns (chars_of texts.first) →
        DoesIf columns decoration (stands_apart block) p (ask (layout StartBlock)) apart →
        CommandDoes columns decoration apart (sub n) q → openers new ≡ openers old ++ OfBlock block texts ∷ [] →
        BlockOpens columns decoration (state_of p old) block (state_of q new)
    block_opens block texts r top apart n is_r is_top first others fits columns_are begins opens levels =
        let same : r ≡ top = cc in
        record {
          top = top;
          is_top = is_top;
          texts = texts;
          first = subst (λ (x : Renderer D A (List A)). chars_of texts.first ≡ decoration.prefix_text x.decorator (prefix_of block)) same first;
          others = others;
          fits = fits;
          apart = apart;
          begins = begins;
          opens = subst (λ (m : ℕ). CommandDoes columns decoration apart (sub m) q) columns_are opens;
          levels = levels;
        }

    pub block_closes : (block : Block) (texts : TextPair) (by : List ℕ) (notes known : Notes) → is_closed_by by (innermost old) ≡ true → Leaves old notes (OfBlock block texts) new known →
        BlockAppends columns decoration p block texts q → BlockCloses columns decoration (state_of p old) by (state_of q new)
    block_closes block texts by notes known closed leaves appends =
        record {
          block = block;
          texts = texts;
          levels = openers_last old new (OfBlock block texts) notes known leaves;
          ends = ends_with old new block texts by notes known closed leaves;
          appends = appends;
        }

-- ---- lines

module _ {D M : Type 0} (columns : ℕ → Option ℕ) (decoration : Decoration D M) where
  pub no_line_left : (s : Place D M) (rest : List ℕ) → rest ≡ [] → LinesDo columns decoration s (lines_of rest) s
  no_line_left s rest none = subst (λ bs. LinesDo columns decoration s (lines_of bs) s) (sym none) refl

  pub line_done : (s next last : Place D M) (rest line after : List ℕ) → lines_of rest ≡ line ∷ lines_of after → LineDoes columns decoration s line next →
      LinesDo columns decoration next (lines_of after) last → LinesDo columns decoration s (lines_of rest) last
  line_done s next last rest line after is does more = subst (λ ls. LinesDo columns decoration s ls last) (sym is) (next, does, more)

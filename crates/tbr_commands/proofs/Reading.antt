-- What is read of a line is the command, or the first command, that it is.
use Rattle.std.proofs.Common.{◌≡◌, ◌⊎◌, inl, inr, ℕ, ◌<◌, ◌==◌, true, false, Option, None, Some, List, [], ◌∷◌, ◌++◌, codes, fold, refl, sym, ap, ◌∙◌, subst, arith, ◌≢◌, length, get_or, suc}
use Rattle.std.proofs.Common.{lit≤, IfSome, rules}
use Rattle.std.specs.List.{AllZip, AllByRecursion as Each}
use Rattle.std.specs.Option.{option_map, option_and_then}
use Rattle.std.specs.Str.{IsUtf8, bytes_eq, is_utf8}
use Rattle.std.proofs.lemmas.Bool.{eqb-true}
use Rattle.std.proofs.lemmas.Bool.Decides.{nat_tests}
use Rattle.std.proofs.lemmas.Slice.Eq.{bytes_eq-Decides}
use Rattle.std.proofs.lemmas.Str.{IsUtf8-from_is_utf8, is_utf8-from_IsUtf8}
use Rattle.tbr_model.specs.declared.white_space.WhiteSpace.TheVariants.{Normal}
use Rattle.tbr_tagged.specs.declared.CellAlign.{CellAlign}
use Rattle.tbr_tagged.specs.declared.CellAlign.TheVariants.{Left, Right, Centre}
use Rattle.tbr_decor.specs.Ground as ground
use Rattle.tbr_decor.specs.declared.colour.Colour.{Colour}
use Rattle.tbr_renderer.specs.Options.{default_options}
use Rattle.tbr_renderer.specs.declared.RenderOptions.{RenderOptions}
use Rattle.tbr_renderer.specs.declared.ImageRenderMode.TheVariants.{IgnoreEmpty, ShowAlways, Replace, Filename}
use Rattle.tbr_script.specs.Script.{words_of, IsByte}
use Rattle.tbr_script.specs.Read.{byte_read, number_read, size_read, text_read, texts_read}
use Rattle.tbr_script.proofs.Reading.{not_a_digit, some_once, no_some, test, if_so, if_not, mapped, followed, number_written, written_number, size_written, written_size, byte_written}
use Rattle.tbr_script.proofs.Reading.{written_byte, text_written, written_text, texts_written, written_texts}
use Rattle.tbr_commands.specs.declared.options.Setting.{Setting}
use Rattle.tbr_commands.specs.declared.options.Setting.TheVariants.{Wrap, Overflow, Pad, NoBorders, NoWrapLinks, Footnotes, NoStrike, Images}
use Rattle.tbr_commands.specs.declared.opening.Decorator.{Decorator}
use Rattle.tbr_commands.specs.declared.opening.Decorator.TheVariants.{Plain, Trivial, Rich}
use Rattle.tbr_commands.specs.declared.opening.Opening.{Opening}
use Rattle.tbr_commands.specs.declared.request.layout.Layout.TheVariants.{StartBlock}
use Rattle.tbr_commands.specs.declared.request.beginning.Beginning.TheVariants as beginning
use Rattle.tbr_commands.specs.declared.request.kind.Kind.TheVariants as kind
use Rattle.tbr_commands.specs.Options.{IsSetting, with_setting}
use Rattle.tbr_commands.specs.Opening.{name_of, AsksFor, IsOpening}
use Rattle.tbr_commands.specs.Request.{Request, layout, begin, end, text, fragment, image, colour, border}
use Rattle.tbr_commands.specs.Command.{Command, ask, link, sub, append, cell, row, IsSized}
use Rattle.tbr_commands.specs.Syntax.{IsAlone, HasArgument, IsColour, IsAlignment, IsNewCell, IsWritten, IsCommand, mode_name, IsRequest}
use Rattle.tbr_commands.specs.Read.{first_of, looked_up, after_word, names, colour_of, alignment_of, cell_of, argument_read, line_read, command_read, settings, setting_read, settings_read}
use Rattle.tbr_commands.specs.Read.{decorator_read, options_read, asked_for, opening_words, opening_read, split_at_space, endings, name_read, colour_read, modes, request_readers}
use Rattle.tbr_commands.specs.Read.{level_readers, read_by, parts_read}

-- ---- choices

module _ {X : Type 0} where
  either : (o other : Option X) (x : X) → first_of o other ≡ Some x → (o ≡ Some x) ⊎ (other ≡ Some x)
  either None other x is = inr is
  either (Some y) other x is = inl is

  -- what is looked up is an entry
  found : (P : List ℕ → X → Type 0) (entries : List (List ℕ × X)) →
      Each (λ (entry : List ℕ × X). P entry.0 entry.1) entries → (writing : List ℕ) (x : X) → looked_up entries writing ≡ Some x → P writing x
  found P [] each writing x is = absurd (no_some x is)
  found P (entry ∷ entries) each writing x is =
      test (bytes_eq writing entry.0)
      (λ so.
      let same = (bytes_eq-Decides writing entry.0).0 so in
      let it : x ≡ entry.1 = some_once entry.1 x (sym (if_so (bytes_eq writing entry.0) _ _ so) ∙ is) in
      subst (λ w. P w x) (sym same) (subst (P entry.0) (sym it) each.0))
      (λ so. found P entries each.1 writing x (sym (if_not (bytes_eq writing entry.0) _ _ so) ∙ is))

-- ---- words and arguments

pub after_is : (word bs rest : List ℕ) → after_word word bs ≡ Some rest → bs ≡ word ++ rest
after_is [] bs rest e = sym (some_once bs rest e)
after_is (w ∷ ws) [] rest e = absurd (no_some rest e)
after_is (w ∷ ws) (b ∷ bs) rest e =
    test (b == w)
    (λ so. ap (λ x. x ∷ bs) (eqb-true b w so) ∙ ap (λ xs. w ∷ xs) (after_is ws bs rest (sym (if_so (b == w) _ None so) ∙ e)))
    (λ so. absurd (no_some rest (sym (if_not (b == w) _ None so) ∙ e)))

-- ---- the first space

pub no_byte : (b k : ℕ) → b ≢ k → (b == k) ≡ false
no_byte b k other = grind (arith, nat_tests, other)

pub split : (word rest : List ℕ) → ((i : ℕ) → i < length word → get_or word i 0 ≢ 32) → split_at_space (word ++ 32 ∷ rest) ≡ Some (word, rest)
split [] rest none = refl
split (b ∷ bs) rest none =
    if_not (b == 32) _ _ (no_byte b 32 (none 0 (omega arith))) ∙ ap (option_map (λ (p : List ℕ × List ℕ). (b ∷ p.0, p.1))) (split bs rest (λ i lt. none (suc i) (omega arith)))

-- what is split is what was put together
parts_are : (bs : List ℕ) (parts : List ℕ × List ℕ) → split_at_space bs ≡ Some parts → bs ≡ parts.0 ++ (codes " " ++ parts.1)
parts_are [] parts e = absurd (no_some parts e)
parts_are (b ∷ bs) parts e =
    test (b == 32)
    (λ so.
    let it = some_once ([], bs) parts (sym (if_so (b == 32) _ _ so) ∙ e) in
    subst (λ (p : List ℕ × List ℕ). b ∷ bs ≡ p.0 ++ 32 ∷ p.1) (sym it) (ap (λ x. x ∷ bs) (eqb-true b 32 so)))
    (λ so.
    let (rest, later, whole) = mapped (λ (p : List ℕ × List ℕ). (b ∷ p.0, p.1)) (split_at_space bs) parts (sym (if_not (b == 32) _ _ so) ∙ e) in
    subst (λ (p : List ℕ × List ℕ). b ∷ bs ≡ p.0 ++ 32 ∷ p.1) (sym whole) (ap (λ xs. b ∷ xs) (parts_are bs rest later)))

-- ---- colours

split_digits : (digits rest : List ℕ) → IsByte digits → split_at_space (digits ++ 32 ∷ rest) ≡ Some (digits, rest)
split_digits digits rest is = split digits rest (not_a_digit 10 32 digits (lit≤ tt) is.0.1)

colour_written : (writing : List ℕ) (c : Colour) → IsColour writing c → colour_read writing ≡ Some c
colour_written writing c (red, green, blue, is, r, g, b) =
    ap colour_read is
    ∙ ap (option_and_then (λ (p : List ℕ × List ℕ). option_and_then (λ (q : List ℕ × List ℕ). colour_of p.0 q.0 q.1) (split_at_space p.1))) (split_digits red (green ++ 32 ∷ blue) r.0)
    ∙ ap (option_and_then (λ (q : List ℕ × List ℕ). colour_of red q.0 q.1)) (split_digits green blue g.0)
    ∙ ap (option_and_then (λ x. option_and_then (λ y. option_map (λ z. record { r = x; g = y; b = z }) (byte_read blue)) (byte_read green))) (byte_written red c.r r)
    ∙ ap (option_and_then (λ y. option_map (λ z. record { r = c.r; g = y; b = z }) (byte_read blue))) (byte_written green c.g g)
    ∙ ap (option_map (λ z. record { r = c.r; g = c.g; b = z })) (byte_written blue c.b b)

written_colour : (writing : List ℕ) (c : Colour) → colour_read writing ≡ Some c → IsColour writing c
written_colour writing c e =
    let (one, splits, others) = followed _ (split_at_space writing) c e in
    let (two, splits_too, parts) = followed _ (split_at_space one.1) c others in
    let (x, r, rest) = followed _ (byte_read one.0) c parts in
    let (y, g, last) = followed _ (byte_read two.0) c rest in
    let (z, b, whole) = mapped _ (byte_read two.1) c last in
    let is = parts_are writing one splits ∙ ap (λ xs. one.0 ++ 32 ∷ xs) (parts_are one.1 two splits_too) in
    subst (IsColour writing) (sym whole) (one.0, two.0, two.1, is, written_byte one.0 x r, written_byte two.0 y g, written_byte two.1 z b)

-- ---- cells

alignment_written : (words : List (List ℕ)) (align : CellAlign) → IsAlignment words align → alignment_of words ≡ Some align
alignment_written words Left (inl is) = ap alignment_of is
alignment_written words Left (inr is) = ap alignment_of is
alignment_written words Right is = ap alignment_of is
alignment_written words Centre is = ap alignment_of is

written_alignment : (words : List (List ℕ)) (align : CellAlign) → alignment_of words ≡ Some align → IsAlignment words align
written_alignment [] align e = subst (IsAlignment []) (sym (some_once Left align e)) (inl refl)
written_alignment (word ∷ []) align e =
    found (λ w a. IsAlignment (w ∷ []) a)
    ((codes "left", Left) ∷ (codes "right", Right) ∷ (codes "centre", Centre) ∷ []) (inr refl, (refl, (refl, tt))) word align e
written_alignment (word ∷ other ∷ words) align e = absurd (no_some align e)

cell_written : (writing : List ℕ) (width span : ℕ) (align : CellAlign) → IsNewCell writing width span align → cell_of (words_of writing) ≡ Some (cell width span align)
cell_written writing width span align (digits, others, words, is, w, s, a) =
    ap cell_of is
    ∙ ap (option_and_then (λ x. option_and_then (λ y. option_map (λ z. cell x y z) (alignment_of words)) (size_read others))) (size_written digits width w)
    ∙ ap (option_and_then (λ y. option_map (λ z. cell width y z) (alignment_of words))) (size_written others span s)
    ∙ ap (option_map (λ z. cell width span z)) (alignment_written words align a)

written_cell : (line writing : List ℕ) (command : Command) → line ≡ codes "cell" ++ (codes " " ++ writing) → cell_of (words_of writing) ≡ Some command → IsWritten line command
written_cell line writing command is e = go (words_of writing) refl e
  where
    go : (ws : List (List ℕ)) → words_of writing ≡ ws → cell_of ws ≡ Some command → IsWritten line command
    go [] are reads = absurd (no_some command reads)
    go (digits ∷ []) are reads = absurd (no_some command reads)
    go (digits ∷ others ∷ words) are reads =
        let (x, w, rest) = followed _ (size_read digits) command reads in
        let (y, s, last) = followed _ (size_read others) command rest in
        let (z, a, whole) = mapped _ (alignment_of words) command last in
        subst (IsWritten line) (sym whole) (writing, is, (digits, others, words, are, written_size digits x w, written_size others y s, written_alignment words z a))

-- ---- commands

alone_written : (line : List ℕ) (request : Request) → IsAlone line request → line_read line ≡ Some (ask request)
alone_written line (layout StartBlock) is = ap line_read is
alone_written line (layout other) is = ap line_read is
alone_written line (begin (beginning.Mode Normal)) is = ap line_read is
alone_written line (begin (beginning.Mode other)) is = ap line_read is
alone_written line (begin other) is = ap line_read is
alone_written line (end kind.Mode) is = ap line_read is
alone_written line (end other) is = ap line_read is
alone_written line (border None) is = ap line_read is
alone_written line other is = absurd is

-- one that a word asks a renderer for
asked_first : (o : Option Request) (request : Request) → o ≡ Some request → first_of (option_map ask o) None ≡ Some (ask request)
asked_first o request is = ap (λ p. first_of (option_map ask p) None) is

argument_written : (line : List ℕ) (request : Request) → HasArgument line request → line_read line ≡ Some (ask request)
argument_written line (text t) (w, is, k) = ap line_read is ∙ asked_first _ (text t) (ap (option_map text) (text_written w t k))
argument_written line (fragment t) (w, is, k) = ap line_read is ∙ asked_first _ (fragment t) (ap (option_map fragment) (text_written w t k))
argument_written line (image s t) (w, is, k) = ap line_read is ∙ asked_first _ (image s t) (ap (option_map (λ p. image p.0 p.1)) (texts_written w s t k))
argument_written line (colour ground.text c) (w, is, k) = ap line_read is ∙ asked_first _ (colour ground.text c) (ap (option_map (colour ground.text)) (colour_written w c k))
argument_written line (colour ground.background c) (w, is, k) = ap line_read is ∙ asked_first _ (colour ground.background c) (ap (option_map (colour ground.background)) (colour_written w c k))
argument_written line (border (Some n)) (w, is, k) = ap line_read is ∙ asked_first _ (border (Some n)) (ap (option_map (λ m. border (Some m))) (number_written w n k))
argument_written line other k = absurd k

command_written : (line : List ℕ) (command : Command) → IsWritten line command → line_read line ≡ Some command
command_written line (ask request) (inl k) = alone_written line request k
command_written line (ask request) (inr k) = argument_written line request k
command_written line (link t) (w, is, k) = ap line_read is ∙ ap (option_map link) (text_written w t k)
command_written line (sub n) (w, is, k) = ap line_read is ∙ ap (option_map sub) (size_written w n k)
command_written line (append s t) (w, is, k) = ap line_read is ∙ ap (option_map (λ p. append p.0 p.1)) (texts_written w s t k)
command_written line (cell width span align) (w, is, k) = ap line_read is ∙ cell_written w width span align k
command_written line (row false) is = ap line_read is
command_written line other is = ap line_read is

-- a name alone is that of its command
written_name : (name : List ℕ) (command : Command) → name_read name ≡ Some command → IsWritten name command
written_name name command e =
    elim (either (looked_up endings name) (looked_up names name) command e) [
      | inl ends ↦ found IsWritten endings (search rules) name command ends
      | inr other ↦ found IsWritten names (search rules) name command other
    ]

-- what was made of what was read
from_made : {X Y : Type 0} (make : X → Y) (o : Option X) (P : Y → Type 0) → ((x : X) → o ≡ Some x → P (make x)) → (y : Y) → option_map make o ≡ Some y → P y
from_made make o P is y e = let (x, reads, whole) = mapped make o y e in subst P (sym whole) (is x reads)

-- what readers read of an argument is written by its word
abbrev Reads : {X : Type 0} → (List ℕ → X → Type 0) → List ℕ → (List ℕ → Option X) → Type 0
Reads {X = X} P word read = (w : List ℕ) (x : X) → read w ≡ Some x → P (word ++ (codes " " ++ w)) x

requests_read : Each (λ (entry : List ℕ × (List ℕ → Option Request)). Reads IsRequest entry.0 entry.1) request_readers
requests_read = (
  λ w. from_made text (text_read w) _ (λ t e. inr (w, refl, written_text w t e)),
  (
    λ w. from_made fragment (text_read w) _ (λ t e. inr (w, refl, written_text w t e)),
    (
      λ w. from_made (λ (p : List ℕ × List ℕ). image p.0 p.1) (texts_read w) _ (λ p e. inr (w, refl, written_texts w p.0 p.1 e)),
      (
        λ w. from_made (colour ground.text) (colour_read w) _ (λ c e. inr (w, refl, written_colour w c e)),
        (
          λ w. from_made (colour ground.background) (colour_read w) _ (λ c e. inr (w, refl, written_colour w c e)),
          (
            λ w. from_made (λ n. border (Some n)) (number_read w) _ (λ n e. inr (w, refl, written_number w n e)),
            (
              λ w. from_made (λ m. begin (beginning.Mode m)) (looked_up modes w) _
                  (λ m e. inl (ap (λ x. codes "ws " ++ x) (found (λ x n. x ≡ mode_name n) modes (refl, (refl, (refl, tt))) w m e))),
              tt,
            ),
          ),
        ),
      ),
    ),
  ),
)

levels_read : Each (λ (entry : List ℕ × (List ℕ → Option Command)). Reads IsWritten entry.0 entry.1) level_readers
levels_read = (
  λ w. from_made link (text_read w) _ (λ t e. (w, refl, written_text w t e)),
  (
    λ w. from_made sub (size_read w) _ (λ n e. (w, refl, written_size w n e)),
    (
      λ w. from_made (λ (p : List ℕ × List ℕ). append p.0 p.1) (texts_read w) _ (λ p e. (w, refl, written_texts w p.0 p.1 e)),
      (
        λ w c e. written_cell (codes "cell " ++ w) w c refl e,
        (λ w. found (λ x c. IsWritten (codes "row " ++ x) c) ((codes "collapse", row true) ∷ []) (refl, tt) w, tt),
      ),
    ),
  ),
)

-- by a word of these
by_reader : {X : Type 0} (P : List ℕ → X → Type 0) (readers : List (List ℕ × (List ℕ → Option X))) →
    Each (λ (entry : List ℕ × (List ℕ → Option X)). Reads P entry.0 entry.1) readers → (word w : List ℕ) (x : X) →
    read_by readers word w ≡ Some x → P (word ++ (codes " " ++ w)) x
by_reader P readers each word w x e =
    let (read, is, reads) = followed (λ read. read w) (looked_up readers word) x e in
    found (Reads P) readers each word read is w x reads

written_argument : (word w : List ℕ) (command : Command) → argument_read word w ≡ Some command → IsWritten (word ++ (codes " " ++ w)) command
written_argument word w command e =
    elim (either (option_map ask (read_by request_readers word w)) (read_by level_readers word w) command e) [
      | inl asks ↦ from_made ask (read_by request_readers word w) (IsWritten (word ++ (codes " " ++ w))) (λ r. by_reader IsRequest request_readers requests_read word w r) command asks
      | inr other ↦ by_reader IsWritten level_readers levels_read word w command other
    ]

written_command : (line : List ℕ) (command : Command) → line_read line ≡ Some command → IsWritten line command
written_command line command e = go (split_at_space line) refl e
  where
    go : (o : Option (List ℕ × List ℕ)) → split_at_space line ≡ o → parts_read line o ≡ Some command → IsWritten line command
    go None is reads = written_name line command reads
    go (Some parts) is reads = subst (λ bs. IsWritten bs command) (sym (parts_are line parts is)) (written_argument parts.0 parts.1 command reads)

module _ (line : List ℕ) (command : Command) where
  pub command_is_read : IsCommand line command → command_read line ≡ Some command
  command_is_read is = if_so (is_utf8 line) (line_read line) None (is_utf8-from_IsUtf8 line is.utf8) ∙ command_written line command is.writes

  pub read_command : command_read line ≡ Some command → IsCommand line command
  read_command e =
      test (is_utf8 line)
      (λ so. record { utf8 = IsUtf8-from_is_utf8 line so; writes = written_command line command (sym (if_so (is_utf8 line) (line_read line) None so) ∙ e) })
      (λ so. absurd (no_some command (sym (if_not (is_utf8 line) (line_read line) None so) ∙ e)))

-- widths and spans are at least 1
pub sized : (line : List ℕ) (command : Command) → command_read line ≡ Some command → IsSized command
sized line command e = go command (read_command line command e).writes
  where
    go : (asks : Command) → IsWritten line asks → IsSized asks
    go (sub n) k = k.2.2
    go (cell m n a) k = (k.2.4.2, k.2.5.2)
    go other k = tt

-- ---- first commands

setting_written : (word : List ℕ) (setting : Setting) → IsSetting word setting → setting_read word ≡ Some setting
setting_written word (Wrap n) (digits, is, size) = ap setting_read is ∙ ap (option_map Wrap) (size_written digits n size)
setting_written word Overflow is = ap setting_read is
setting_written word Pad is = ap setting_read is
setting_written word NoBorders is = ap setting_read is
setting_written word NoWrapLinks is = ap setting_read is
setting_written word Footnotes is = ap setting_read is
setting_written word NoStrike is = ap setting_read is
setting_written word (Images IgnoreEmpty) is = ap setting_read is
setting_written word (Images Filename) is = ap setting_read is
setting_written word (Images ShowAlways) is = ap setting_read is
setting_written word (Images (Replace title)) is = absurd is

written_setting : (word : List ℕ) (setting : Setting) → setting_read word ≡ Some setting → IsSetting word setting
written_setting word setting e =
    elim (either (looked_up settings word) (option_and_then (λ digits. option_map Wrap (size_read digits)) (after_word (codes "wrap=") word)) setting e) [
      | inl name ↦ found (λ w s. IsSetting w s) settings (refl, (refl, (refl, (refl, (refl, (refl, (refl, (refl, (refl, tt))))))))) word setting name
      | inr wrap ↦
          let (digits, is, reads) = followed _ (after_word (codes "wrap=") word) setting wrap in
          let (n, size, whole) = mapped Wrap (size_read digits) setting reads in
          subst (IsSetting word) (sym whole) (digits, after_is (codes "wrap=") word digits is, written_size digits n size)
    ]

settings_written : (words : List (List ℕ)) (all : List Setting) → AllZip IsSetting words all → settings_read words ≡ Some all
settings_written [] [] is = refl
settings_written [] (s ∷ ss) is = absurd is
settings_written (w ∷ ws) [] is = absurd is
settings_written (w ∷ ws) (s ∷ ss) is =
    ap (option_and_then (λ x. option_map (λ xs. x ∷ xs) (settings_read ws))) (setting_written w s is.0) ∙ ap (option_map (λ xs. s ∷ xs)) (settings_written ws ss is.1)

written_settings : (words : List (List ℕ)) (all : List Setting) → settings_read words ≡ Some all → AllZip IsSetting words all
written_settings [] all e = subst (AllZip IsSetting []) (sym (some_once [] all e)) tt
written_settings (w ∷ ws) all e =
    let (s, is, rest) = followed _ (setting_read w) all e in
    let (ss, are, whole) = mapped (λ xs. s ∷ xs) (settings_read ws) all rest in
    subst (AllZip IsSetting (w ∷ ws)) (sym whole) (written_setting w s is, written_settings ws ss are)

decorator_written : (d : Decorator) → decorator_read (name_of d) ≡ Some d
decorator_written Plain = refl
decorator_written Trivial = refl
decorator_written Rich = refl

written_decorator : (name : List ℕ) (d : Decorator) → decorator_read name ≡ Some d → name ≡ name_of d
written_decorator name d e = found (λ w x. w ≡ name_of x) ((codes "plain", Plain) ∷ (codes "trivial", Trivial) ∷ (codes "rich", Rich) ∷ []) (refl, (refl, (refl, tt))) name d e

asked_written : (words : List (List ℕ)) (o : Opening) → AsksFor words o → asked_for words ≡ Some o
asked_written words o (digits, others, are, size, (settings_are, all, options)) =
    ap asked_for are
    ∙ ap (option_and_then (λ w.
    option_and_then (λ d. option_map (λ os. record { width = w; decorator = d; options = os })
    (options_read others)) (decorator_read (name_of o.decorator)))) (size_written digits o.width size)
    ∙ ap (option_and_then (λ d. option_map (λ os. record { width = o.width; decorator = d; options = os }) (options_read others))) (decorator_written o.decorator)
    ∙ ap (λ ss. option_map (λ os. record { width = o.width; decorator = o.decorator; options = os })
    (option_map (λ all. fold with_setting default_options all) ss)) (settings_written others settings_are all)
    ∙ ap (λ (os : RenderOptions). Some (record o { options = os })) (sym options)

written_asked : (words : List (List ℕ)) (o : Opening) → asked_for words ≡ Some o → AsksFor words o
written_asked [] o e = absurd (no_some o e)
written_asked (digits ∷ []) o e = absurd (no_some o e)
written_asked (digits ∷ name ∷ words) o e =
    let (w, size, rest) = followed _ (size_read digits) o e in
    let (d, decorator, last) = followed _ (decorator_read name) o rest in
    let (os, given, whole) = mapped _ (options_read words) o last in
    let (ss, are, told) = mapped (λ ss. fold with_setting default_options ss) (settings_read words) os given in
    subst (AsksFor (digits ∷ name ∷ words)) (sym whole)
    (digits, words, ap (λ n. digits ∷ n ∷ words) (written_decorator name d decorator), written_size digits w size, (ss, written_settings words ss are, told))

pub opening_is_read : (line : List ℕ) (o : Opening) → IsOpening line o → opening_read line ≡ Some o
opening_is_read line o is =
    if_so (is_utf8 line) (opening_words (words_of line)) None (is_utf8-from_IsUtf8 line is.utf8) ∙ ap opening_words is.begins ∙ asked_written is.words o is.asks

pub read_opening : (line : List ℕ) (o : Opening) → opening_read line ≡ Some o → IsOpening line o
read_opening line o e =
    test (is_utf8 line)
    (λ so. go (words_of line) refl (IsUtf8-from_is_utf8 line so) (sym (if_so (is_utf8 line) (opening_words (words_of line)) None so) ∙ e))
    (λ so. absurd (no_some o (sym (if_not (is_utf8 line) (opening_words (words_of line)) None so) ∙ e)))
  where
    go : (ws : List (List ℕ)) → words_of line ≡ ws → IsUtf8 line → opening_words ws ≡ Some o → IsOpening line o
    go [] are utf8 reads = absurd (no_some o reads)
    go (w ∷ ws) are utf8 reads =
        test (bytes_eq w (codes "new"))
        (λ so. record {
          utf8 = utf8;
          words = ws;
          begins =
              are ∙ ap (λ x. x ∷ ws) ((bytes_eq-Decides w (codes "new")).0 so);
          asks =
              written_asked ws o (sym (if_so (bytes_eq w (codes "new")) (asked_for ws) None so) ∙ reads);
        })
        (λ so. absurd (no_some o (sym (if_not (bytes_eq w (codes "new")) (asked_for ws) None so) ∙ reads)))

-- no wrap width is 0
wrap_width_kept : (word : List ℕ) (setting : Setting) (options : RenderOptions) → IsSetting word setting → options.wrap_width ≢ Some 0 → (with_setting options setting).wrap_width ≢ Some 0
wrap_width_kept word (Wrap columns) options k h e = let same : columns ≡ 0 = cc in omega (arith, same, k.2.2)
wrap_width_kept word Overflow options k h e = h e
wrap_width_kept word Pad options k h e = h e
wrap_width_kept word NoBorders options k h e = h e
wrap_width_kept word NoWrapLinks options k h e = h e
wrap_width_kept word Footnotes options k h e = h e
wrap_width_kept word NoStrike options k h e = h e
wrap_width_kept word (Images mode) options k h e = h e

wrap_width_told : (words : List (List ℕ)) (all : List Setting) (options : RenderOptions) →
    AllZip IsSetting words all → options.wrap_width ≢ Some 0 → (fold with_setting options all).wrap_width ≢ Some 0
wrap_width_told [] [] options is h = h
wrap_width_told [] (s ∷ ss) options is h = absurd is
wrap_width_told (w ∷ ws) [] options is h = absurd is
wrap_width_told (w ∷ ws) (s ∷ ss) options is h = wrap_width_told ws ss (with_setting options s) is.1 (wrap_width_kept w s options is.0 h)

-- widths are at least 1
pub opening_sized : (line : List ℕ) (found : Option Opening) → found ≡ opening_read line → IfSome found (λ o. 0 < o.width) × IfSome found (λ o. o.options.wrap_width ≢ Some 0)
opening_sized line None e = (tt, tt)
opening_sized line (Some o) e =
    let (digits, others, are, size, (all, told, given)) = (read_opening line o (sym e)).asks in
    (size.2, λ none. wrap_width_told others all default_options told (λ e. cc) (ap (λ (o : RenderOptions). o.wrap_width) (sym given) ∙ none))

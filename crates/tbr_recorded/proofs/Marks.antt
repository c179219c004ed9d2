-- What decorators of scripts write for stretches.
use Rattle.std.proofs.Common.{◌≡◌, ◌≢◌, ℕ, List, [], refl, chars}
use Rattle.std.specs.Prelude.{codes, IsTrue}
use Rattle.std.specs.Char.{is_ascii}
use Rattle.std.specs.List.{list_all}
use Rattle.std.proofs.lemmas.Str.{chars-IsAscii}
use Rattle.tbr_decor.proofs.Texts.{ascii_all}
use Rattle.tbr_commands.specs.declared.opening.Decorator.{Decorator}
use Rattle.tbr_commands.specs.declared.opening.Decorator.TheVariants.{Plain, Trivial, Rich}
use Rattle.tbr_commands.specs.declared.request.beginning.Beginning.{Beginning}
use Rattle.tbr_commands.specs.declared.request.beginning.Beginning.TheVariants as begun
use Rattle.tbr_commands.specs.declared.request.kind.Kind.{Kind}
use Rattle.tbr_commands.specs.declared.request.kind.Kind.TheVariants as kind
use Rattle.tbr_recorded.specs.Texts.{text_before, text_after}

-- characters of a text that is ASCII
pub plain_chars : (xs : List ℕ) → IsTrue (list_all is_ascii xs) → chars xs ≡ xs
plain_chars xs h = chars-IsAscii xs (ascii_all xs h)

pub superscript_before : (d : Decorator) → codes "^{" ≡ text_before d begun.Superscript
superscript_before Plain = refl
superscript_before Trivial = refl
superscript_before Rich = refl

pub nothing_before : (d : Decorator) (b : Beginning) → b ≢ begun.Superscript → [] ≡ text_before d b
nothing_before d (begun.Mode mode) _ = refl
nothing_before d begun.Preformat _ = refl
nothing_before Plain begun.Emphasis _ = refl
nothing_before Trivial begun.Emphasis _ = refl
nothing_before Rich begun.Emphasis _ = refl
nothing_before Plain begun.Strong _ = refl
nothing_before Trivial begun.Strong _ = refl
nothing_before Rich begun.Strong _ = refl
nothing_before Plain begun.Strikeout _ = refl
nothing_before Trivial begun.Strikeout _ = refl
nothing_before Rich begun.Strikeout _ = refl
nothing_before Plain begun.Code _ = refl
nothing_before Trivial begun.Code _ = refl
nothing_before Rich begun.Code _ = refl
nothing_before d begun.Superscript other = absurd (other refl)

pub superscript_after : (d : Decorator) → codes "}" ≡ text_after d kind.Superscript
superscript_after Plain = refl
superscript_after Trivial = refl
superscript_after Rich = refl

pub nothing_after : (d : Decorator) (k : Kind) → k ≢ kind.Superscript → [] ≡ text_after d k
nothing_after d kind.Mode _ = refl
nothing_after d kind.Preformat _ = refl
nothing_after d kind.Colour _ = refl
nothing_after d kind.Background _ = refl
nothing_after Plain kind.Emphasis _ = refl
nothing_after Trivial kind.Emphasis _ = refl
nothing_after Rich kind.Emphasis _ = refl
nothing_after Plain kind.Strong _ = refl
nothing_after Trivial kind.Strong _ = refl
nothing_after Rich kind.Strong _ = refl
nothing_after Plain kind.Strikeout _ = refl
nothing_after Trivial kind.Strikeout _ = refl
nothing_after Rich kind.Strikeout _ = refl
nothing_after Plain kind.Code _ = refl
nothing_after Trivial kind.Code _ = refl
nothing_after Rich kind.Code _ = refl
nothing_after d kind.Superscript other = absurd (other refl)

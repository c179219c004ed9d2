-- What a script has begun and not ended yet.
use Rattle.std.specs.Prelude.{ℕ, suc, ◌-◌, ◌^◌, ◌≤◌, ◌==◌, Bool, false, Option, None, Some}
use Rattle.tbr_decor.specs.Ground as ground
use Rattle.tbr_commands.specs.Request.{Request, begin, end, colour}
use Rattle.tbr_commands.specs.declared.begun.Begun.{Begun}
use Rattle.tbr_commands.specs.declared.request.beginning.Beginning.{Beginning}
use Rattle.tbr_commands.specs.declared.request.beginning.Beginning.TheVariants as beginning
use Rattle.tbr_commands.specs.declared.request.kind.Kind.{Kind}
use Rattle.tbr_commands.specs.declared.request.kind.Kind.TheVariants.{Mode, Preformat, Emphasis, Strong, Strikeout, Code, Superscript, Colour, Background}

-- nothing begun of any kind
abbrev pub nothing_begun : Begun
nothing_begun = record {
  modes = 0;
  preformats = 0;
  emphases = 0;
  strongs = 0;
  strikeouts = 0;
  codes = 0;
  superscripts = 0;
  colours = 0;
  backgrounds = 0;
}

-- how many of a kind are begun
abbrev pub count : Begun → Kind → ℕ
count begun Mode = begun.modes
count begun Preformat = begun.preformats
count begun Emphasis = begun.emphases
count begun Strong = begun.strongs
count begun Strikeout = begun.strikeouts
count begun Code = begun.codes
count begun Superscript = begun.superscripts
count begun Colour = begun.colours
count begun Background = begun.backgrounds

-- the same, but with so many of a kind
abbrev pub with_count : Begun → Kind → ℕ → Begun
with_count begun Mode n = record begun { modes = n }
with_count begun Preformat n = record begun { preformats = n }
with_count begun Emphasis n = record begun { emphases = n }
with_count begun Strong n = record begun { strongs = n }
with_count begun Strikeout n = record begun { strikeouts = n }
with_count begun Code n = record begun { codes = n }
with_count begun Superscript n = record begun { superscripts = n }
with_count begun Colour n = record begun { colours = n }
with_count begun Background n = record begun { backgrounds = n }

-- ---- what a request begins, and what it ends

-- the kind of what begins
abbrev pub kind_of : Beginning → Kind
kind_of (beginning.Mode mode) = Mode
kind_of beginning.Preformat = Preformat
kind_of beginning.Emphasis = Emphasis
kind_of beginning.Strong = Strong
kind_of beginning.Strikeout = Strikeout
kind_of beginning.Code = Code
kind_of beginning.Superscript = Superscript

-- the kind of a colour, of the text or the background
abbrev pub in_colour : ground.Ground → Kind
in_colour ground.text = Colour
in_colour ground.background = Background

-- the kind that a request begins, if it begins one
abbrev pub begins : Request → Option Kind
begins (begin what) = Some (kind_of what)
begins (colour g c) = Some (in_colour g)
begins other = None

-- the kind that a request ends, if it ends one; the end of a block may always come, and ends none
abbrev pub ends : Request → Option Kind
ends (end what) = Some what
ends other = None

-- ---- counting

-- whether a kind is given of which none is begun
abbrev pub lacks : Begun → Option Kind → Bool
lacks begun None = false
lacks begun (Some kind) = count begun kind == 0

-- whether a request ends what wasn't begun, or was ended already
abbrev pub ends_nothing : Begun → Request → Bool
ends_nothing begun request = lacks begun (ends request)

-- one more begun of a kind, if one is given
abbrev pub more : Begun → Option Kind → Begun
more begun None = begun
more begun (Some kind) = with_count begun kind (suc (count begun kind))

-- that the count of one more passes `usize`
abbrev pub MorePasses : Begun → Option Kind → Type 0
MorePasses begun None = ⊥
MorePasses begun (Some kind) = 2 ^ 64 ≤ suc (count begun kind)

-- one fewer begun of a kind, if one is given and any is begun
abbrev pub less : Begun → Option Kind → Begun
less begun None = begun
less begun (Some kind) = with_count begun kind (count begun kind - 1)

-- what has begun after a request
abbrev pub counted : Begun → Request → Begun
counted begun request = less (more begun (begins request)) (ends request)

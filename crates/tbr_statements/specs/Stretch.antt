-- What one command begins and another ends.
use Rattle.std.specs.Prelude.{ℕ, Option, None, Some, List, codes}
use Rattle.std.specs.Option.{option_map}
use Rattle.tbr_commands.specs.Begun.{begins, ends}
use Rattle.tbr_commands.specs.Request.{request_of}
use Rattle.tbr_commands.specs.Syntax.{ending_name}
use Rattle.tbr_commands.specs.declared.command.Command.{Command}
use Rattle.tbr_commands.specs.declared.command.Command.TheVariants as asked
use Rattle.tbr_commands.specs.declared.request.kind.Kind.TheVariants as kind
use Rattle.tbr_statements.specs.declared.stretch.Stretch.{Stretch}
use Rattle.tbr_statements.specs.declared.stretch.Stretch.TheVariants.{Of, Link}

-- what a command begins, and what it ends
abbrev pub begun_by : Command → Option Stretch
begun_by (asked.Ask request) = option_map Of (begins (request_of request))
begun_by (asked.Link target) = Some Link
begun_by other = None

abbrev pub ended_by : Command → Option Stretch
ended_by (asked.Ask request) = option_map Of (ends (request_of request))
ended_by asked.EndLink = Some Link
ended_by other = None

-- the word that begins it, and the word that ends it
abbrev pub word_of : Stretch → List ℕ
word_of Link = codes "link"
word_of (Of kind.Mode) = codes "ws"
word_of (Of kind.Preformat) = codes "pre"
word_of (Of kind.Emphasis) = codes "em"
word_of (Of kind.Strong) = codes "strong"
word_of (Of kind.Strikeout) = codes "strike"
word_of (Of kind.Code) = codes "code"
word_of (Of kind.Superscript) = codes "super"
word_of (Of kind.Colour) = codes "colour"
word_of (Of kind.Background) = codes "bg"

abbrev pub end_of : Stretch → List ℕ
end_of Link = codes "endlink"
end_of (Of k) = ending_name k

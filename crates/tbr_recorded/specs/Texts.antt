-- What a command writes.
use Rattle.std.specs.Prelude.{ℕ, ◌+◌, ◌^◌, ◌-◌, min, if◌then◌else◌, Option, None, Some, List, [], ◌++◌, chars, codes}
use Rattle.std.specs.Fmt.{decimal}
use Rattle.tbr_decor.specs.Start as start
use Rattle.tbr_decor.specs.Start.{Start}
use Rattle.tbr_decor.specs.End as end_text
use Rattle.tbr_decor.specs.End.{End}
use Rattle.tbr_decor.specs.Plain as plain
use Rattle.tbr_decor.specs.Trivial as trivial
use Rattle.tbr_renderer.specs.Image.{shown_title}
use Rattle.tbr_commands.specs.declared.opening.Decorator.{Decorator}
use Rattle.tbr_commands.specs.declared.opening.Decorator.TheVariants.{Plain, Trivial, Rich}
use Rattle.tbr_commands.specs.declared.request.beginning.Beginning.{Beginning}
use Rattle.tbr_commands.specs.declared.request.beginning.Beginning.TheVariants as beginning
use Rattle.tbr_commands.specs.declared.request.kind.Kind.{Kind}
use Rattle.tbr_commands.specs.declared.request.kind.Kind.TheVariants as kind
use Rattle.tbr_commands.specs.Request.{Request, begin, end, image, text}
use Rattle.tbr_commands.specs.Command.{Command, ask, link, end_link}
use Rattle.tbr_recorded.specs.declared.texts.Texts.{Texts}

-- ---- decorators

-- the text of what a decorator opens, and of what it closes
abbrev pub opening_text : Decorator → Start → List ℕ
opening_text Plain what = plain.start_text what
opening_text Trivial what = trivial.start_text what
opening_text Rich what = trivial.start_text what

abbrev pub closing_text : Decorator → End → List ℕ
closing_text Plain what = plain.end_text what
closing_text Trivial what = trivial.end_text what
closing_text Rich what = trivial.end_text what

-- where a stretch begins, and where it ends
abbrev pub text_before : Decorator → Beginning → List ℕ
text_before d (beginning.Mode mode) = []
text_before d beginning.Preformat = []
text_before d beginning.Emphasis = opening_text d start.emphasis
text_before d beginning.Strong = opening_text d start.strong
text_before d beginning.Strikeout = opening_text d start.strikeout
text_before d beginning.Code = opening_text d start.code
text_before d beginning.Superscript = opening_text d start.superscript

abbrev pub text_after : Decorator → Kind → List ℕ
text_after d kind.Emphasis = closing_text d end_text.emphasis
text_after d kind.Strong = closing_text d end_text.strong
text_after d kind.Strikeout = closing_text d end_text.strikeout
text_after d kind.Code = closing_text d end_text.code
text_after d kind.Superscript = closing_text d end_text.superscript
text_after d other = []

-- ---- links and images

-- how many links have begun after a command
abbrev pub noted : Command → Texts → Texts
noted (link target) t = record t { links = min (t.links + 1) (2 ^ 64 - 1) }
noted other t = t

-- what comes after a link: with footnotes the number of the last that began, too
abbrev pub after_link : Texts → List ℕ
after_link t =
    closing_text t.decorator end_text.link
    ++ (if t.options.include_link_footnotes then codes "[" ++ (decimal t.links ++ codes "]") else [])

-- an image with the title that is shown, if one is
abbrev pub titled : Decorator → List ℕ → Option (List ℕ) → List ℕ
titled d source None = []
titled d source (Some title) = opening_text d (start.image source title)

abbrev pub image_text : Texts → List ℕ → List ℕ → List ℕ
image_text t source title = titled t.decorator source (shown_title t.options.img_mode source title)

-- ---- commands

-- what is written for a request, and for a command
abbrev pub request_text : Texts → Request → List ℕ
request_text t (text own) = chars own
request_text t (begin what) = text_before t.decorator what
request_text t (end what) = text_after t.decorator what
request_text t (image source title) = image_text t (chars source) (chars title)
request_text t other = []

abbrev pub written : Texts → Command → List ℕ
written t (ask request) = request_text t request
written t (link target) = opening_text t.decorator (start.link (chars target))
written t end_link = after_link t
written t other = []

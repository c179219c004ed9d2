-- What the start and the end of decorated text make of a renderer.
use Rattle.std.specs.Prelude.{ℕ, suc, ◌-◌, if◌then◌else◌, Option, None, Some, List}
use Rattle.tbr_tagged.specs.Outcome.{Outcome, done}
use Rattle.tbr_decor.specs.declared.colour.Colour.{Colour}
use Rattle.tbr_decor.specs.Decoration.{Decoration}
use Rattle.tbr_decor.specs.Start as start
use Rattle.tbr_decor.specs.End as end
use Rattle.tbr_decor.specs.Ground.{Ground}
use Rattle.tbr_decor.specs.Change as change
use Rattle.tbr_renderer.specs.Renderer.{Renderer, new_renderer, with_annotation, without_annotation}
use Rattle.tbr_renderer.specs.Outcomes.{changed}
use Rattle.tbr_renderer.specs.Steps.{after_text}
use Rattle.tbr_renderer.specs.Image.{shown_title}

-- after the beginning of a strikeout text is struck, and after its end no longer
abbrev pub struck_from : {D A T : Type 0} → Renderer D A T → Renderer D A T
struck_from r = if r.options.use_unicode_strikeout then record r { strikeouts = suc r.strikeouts } else r

abbrev pub struck_until : {D A T : Type 0} → Renderer D A T → Renderer D A T
struck_until r = if r.options.use_unicode_strikeout then record r { strikeouts = r.strikeouts - 1 } else r

-- what is left of a decorator that was asked for what is opened or closed
module _ {D A : Type 0} (decoration : Decoration D A) where
  abbrev pub opened : start.Start → D → D
  opened (start.link target) d = decoration.after d (change.link_start target)
  opened (start.image source title) d = decoration.after d (change.image source title)
  opened start.emphasis d = d
  opened start.strong d = d
  opened start.strikeout d = d
  opened start.code d = d
  opened start.superscript d = d

  abbrev pub closed : end.End → D → D
  closed end.link d = decoration.after d change.link_end
  closed end.emphasis d = d
  closed end.strong d = d
  closed end.strikeout d = d
  closed end.code d = d
  closed end.superscript d = d

  -- a renderer whose decorator was asked for what is opened, or for what is closed
  abbrev pub asked_to_open : start.Start → Renderer D A (List A) → Renderer D A (List A)
  asked_to_open s r = record r { decorator = opened s r.decorator }

  abbrev pub asked_to_close : end.End → Renderer D A (List A) → Renderer D A (List A)
  asked_to_close e r = record r { decorator = closed e r.decorator }

  -- a renderer whose decorator was asked for a colour
  abbrev pub asked_for_colour : Ground → Colour → Renderer D A (List A) → Renderer D A (List A)
  asked_for_colour g colour r = record r { decorator = decoration.after r.decorator (change.push_colour g colour) }

  -- a renderer whose decorator was asked to end a colour
  abbrev pub asked_to_end : Ground → Renderer D A (List A) → Renderer D A (List A)
  asked_to_end g r = record r { decorator = decoration.after r.decorator (change.pop_colour g) }

  -- and the annotation of what is opened joins the others
  abbrev pub annotated : start.Start → Renderer D A (List A) → Renderer D A (List A)
  annotated s r = with_annotation (asked_to_open s r) (decoration.annotation r.decorator s)

  -- a colour's annotation joins the others, if it has one
  abbrev pub coloured_by : Option A → Renderer D A (List A) → Renderer D A (List A)
  coloured_by None r = r
  coloured_by (Some annotation) r = with_annotation r annotation

  -- the decorator is asked for a colour, and the annotation that it has for it, if any, joins the others
  abbrev pub coloured : Ground → Colour → Renderer D A (List A) → Renderer D A (List A)
  coloured g colour r = coloured_by (decoration.colour_annotation r.decorator g colour) (asked_for_colour g colour r)

  -- the end of a colour takes the last annotation, where the decorator says so
  abbrev pub uncoloured : Ground → Renderer D A (List A) → Renderer D A (List A)
  uncoloured g r =
      if decoration.ends_colour r.decorator g then without_annotation (asked_to_end g r) else asked_to_end g r

  -- a renderer for a block inside, with the same options and annotations
  abbrev pub sub_renderer : ℕ → Renderer D A (List A) → Renderer D A (List A)
  sub_renderer width r =
      record (new_renderer width r.options (decoration.subblock r.decorator)) { annotations = r.annotations }

module _ {D A : Type 0} (columns : ℕ → Option ℕ) (decoration : Decoration D A) where
  -- What is opened brings the decorator's text under its annotation.
  abbrev pub after_start : start.Start → Renderer D A (List A) → Outcome (Renderer D A (List A))
  after_start s r =
      let text = decoration.start_text r.decorator s in
      after_text columns decoration.preformatted text (annotated decoration s r)

  -- What is closed brings the decorator's text, and then takes the last annotation.
  abbrev pub after_end : end.End → Renderer D A (List A) → Outcome (Renderer D A (List A))
  after_end e r =
      let text = decoration.end_text r.decorator e in
      changed (λ s. without_annotation s)
      (after_text columns decoration.preformatted text (asked_to_close decoration e r))

  -- A strikeout is opened, and then text is struck; text is no longer struck, and then it is closed.
  abbrev pub after_strikeout_start : Renderer D A (List A) → Outcome (Renderer D A (List A))
  after_strikeout_start r = changed (λ s. struck_from s) (after_start start.strikeout r)

  abbrev pub after_strikeout_end : Renderer D A (List A) → Outcome (Renderer D A (List A))
  after_strikeout_end r = after_end end.strikeout (struck_until r)

  -- An image with this title brings the decorator's text under an annotation of its own. One without shows nothing.
  abbrev pub after_titled : List ℕ → Option (List ℕ) → Renderer D A (List A) → Outcome (Renderer D A (List A))
  after_titled source None r = done r
  after_titled source (Some title) r = changed (λ s. without_annotation s) (after_start (start.image source title) r)

  -- An image comes with the title that the options show for it, if they show one.
  abbrev pub after_image : List ℕ → List ℕ → Renderer D A (List A) → Outcome (Renderer D A (List A))
  after_image source title r = after_titled source (shown_title r.options.img_mode source title) r

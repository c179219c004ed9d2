-- The options that hold where none are given.
use Rattle.std.specs.Prelude.{true, false, None}
use Rattle.tbr_renderer.specs.declared.options.RenderOptions.{RenderOptions}
use Rattle.tbr_renderer.specs.declared.options.ImageRenderMode.TheVariants.{IgnoreEmpty}

-- the options that hold where none are given
abbrev pub default_options : RenderOptions
default_options = record {
  wrap_width = None;
  allow_width_overflow = false;
  pad_block_width = false;
  raw = false;
  draw_borders = true;
  fence_tables = false;
  wrap_links = true;
  include_link_footnotes = false;
  use_unicode_strikeout = true;
  img_mode = IgnoreEmpty;
}

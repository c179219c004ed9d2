-- The options of a script's first command.
use Rattle.std.specs.Prelude.{◌≡◌, ℕ, true, false, List, ◌++◌, Some, codes, fold}
use Rattle.std.specs.List.{AllZip}
use Rattle.tbr_renderer.specs.Options.{default_options}
use Rattle.tbr_renderer.specs.declared.RenderOptions.{RenderOptions}
use Rattle.tbr_renderer.specs.declared.ImageRenderMode.{ImageRenderMode}
use Rattle.tbr_renderer.specs.declared.ImageRenderMode.TheVariants.{IgnoreEmpty, ShowAlways, Replace, Filename}
use Rattle.tbr_script.specs.Script.{IsSize}
use Rattle.tbr_commands.specs.declared.options.Setting.{Setting}
use Rattle.tbr_commands.specs.declared.options.Setting.TheVariants.{Wrap, Overflow, Pad, NoBorders, NoWrapLinks, Footnotes, NoStrike, Images}

-- `wrap=` and a number of columns, at least 1
abbrev pub IsWrap : List ℕ → ℕ → Type 0
IsWrap word columns =
    (digits : List ℕ) × (word ≡ codes "wrap=" ++ digits) × IsSize digits columns

-- What an image without a title shows. A script gives no title in its place.
abbrev pub IsImageMode : List ℕ → ImageRenderMode → Type 0
IsImageMode word IgnoreEmpty = word ≡ codes "img=ignore"
IsImageMode word Filename = word ≡ codes "img=filename"
IsImageMode word ShowAlways = word ≡ codes "img=always"
IsImageMode word (Replace title) = ⊥

-- how a setting is written
abbrev pub IsSetting : List ℕ → Setting → Type 0
IsSetting word (Wrap columns) = IsWrap word columns
IsSetting word Overflow = word ≡ codes "overflow"
IsSetting word Pad = word ≡ codes "pad"
IsSetting word NoBorders = word ≡ codes "noborders"
IsSetting word NoWrapLinks = word ≡ codes "nowraplinks"
IsSetting word Footnotes = word ≡ codes "footnotes"
IsSetting word NoStrike = word ≡ codes "nostrike"
IsSetting word (Images mode) = IsImageMode word mode

-- options with a setting more
abbrev pub with_setting : RenderOptions → Setting → RenderOptions
with_setting options (Wrap columns) = record options { wrap_width = Some columns }
with_setting options Overflow = record options { allow_width_overflow = true }
with_setting options Pad = record options { pad_block_width = true }
with_setting options NoBorders = record options { draw_borders = false }
with_setting options NoWrapLinks = record options { wrap_links = false }
with_setting options Footnotes = record options { include_link_footnotes = true }
with_setting options NoStrike = record options { use_unicode_strikeout = false }
with_setting options (Images mode) = record options { img_mode = mode }

-- the options that words give, each of them a setting; of two of a kind the later counts
abbrev pub AreOptions : List (List ℕ) → RenderOptions → Type 0
AreOptions words options =
    (settings : List Setting) × AllZip IsSetting words settings × (options ≡ fold with_setting default_options settings)

-- What an image shows.
use Rattle.std.specs.Prelude.{ℕ, ◌==◌, Bool, if◌then◌else◌, Option, None, Some, List, [], ◌∷◌, chars}
use Rattle.std.specs.List.{list_any}
use Rattle.tbr_model.specs.Codes.{slash}
use Rattle.tbr_renderer.specs.declared.options.ImageRenderMode.{ImageRenderMode}
use Rattle.tbr_renderer.specs.declared.options.ImageRenderMode.TheVariants.{IgnoreEmpty, ShowAlways, Replace, Filename}

-- `/`
abbrev pub is_slash : ℕ → Bool
is_slash c = c == slash

-- what follows the last `/` of a source, or all of it
abbrev pub file_name : List ℕ → List ℕ
file_name [] = []
file_name (c ∷ cs) = if list_any is_slash cs then file_name cs else (if is_slash c then cs else c ∷ cs)

-- the title that is shown for an image without one, if any is
abbrev pub title_by_mode : ImageRenderMode → List ℕ → Option (List ℕ)
title_by_mode IgnoreEmpty source = None
title_by_mode ShowAlways source = Some []
title_by_mode (Replace title) source = Some (chars title.now)
title_by_mode Filename source = Some (file_name source)

-- the title that is shown for an image
abbrev pub shown_title : ImageRenderMode → List ℕ → List ℕ → Option (List ℕ)
shown_title mode source [] = title_by_mode mode source
shown_title mode source (c ∷ cs) = Some (c ∷ cs)

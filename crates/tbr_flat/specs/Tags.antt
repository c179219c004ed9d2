-- The tags of characters, from repeated ones.
use Rattle.std.specs.Prelude.{◌≡◌, ℕ, suc, ◌+◌, ◌<◌, ◌≤◌, List, [], ◌∷◌, ◌++◌, length, drop, replicate}
use Rattle.tbr_flat.specs.declared.tags.RepeatedTag.{RepeatedTag}

abbrev pub tags_of : {A : Type 0} → List (RepeatedTag A) → List A
tags_of [] = []
tags_of (s ∷ ss) = s.tag ∷ replicate s.more s.tag ++ tags_of ss

-- Where the last tags begin: after so many tags of a stored one, or before it.
pub record IsPlace {A : Type 0} (stored : List (RepeatedTag A)) (nth tags_before last : ℕ) : Type 0 where
  pub within : nth ≤ length stored
  pub tags : length (tags_of (drop nth stored)) ≡ tags_before + last
  pub inside : 0 < tags_before → length (tags_of (drop (suc nth) stored)) < last

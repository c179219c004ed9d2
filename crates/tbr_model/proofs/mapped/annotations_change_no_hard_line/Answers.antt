use Rattle.tbr_model.proofs.Common.{◌≡◌, true, ShowsHardLine, ShowsPre, ShowsPreWrap, ShowsTabs}
use Rattle.tbr_model.proofs.maps.HardLines.{hard_lines-map, visible-map, hard_line-map, pre-map, prewrap-map, tabs-map, hard_parts-map}
use Rattle.tbr_model.proofs.mapped.annotations_change_no_hard_line.Goals as goal

pub returns-clause-lines : goal.returns-clause-lines
returns-clause-lines g c = hard_lines-map

pub returns-clause-visible : goal.returns-clause-visible
returns-clause-visible g c = λ f eq other keeps. visible-map f (λ a b. eq a b ≡ true) (λ a b. other a b ≡ true) keeps

pub returns-clause-hard : goal.returns-clause-hard
returns-clause-hard g c =
    λ f eq other keeps columns. hard_parts-map f _ (ShowsHardLine columns (λ a b. other a b ≡ true))
    (hard_line-map f (λ a b. eq a b ≡ true) (λ a b. other a b ≡ true) keeps columns)

pub returns-clause-pre : goal.returns-clause-pre
returns-clause-pre g c =
    λ f eq other keeps columns width. hard_parts-map f _ (ShowsPre columns (λ a b. other a b ≡ true) width)
    (pre-map f (λ a b. eq a b ≡ true) (λ a b. other a b ≡ true) keeps columns width)

pub returns-clause-prewrap : goal.returns-clause-prewrap
returns-clause-prewrap g c = λ f columns width. hard_parts-map f _ (ShowsPreWrap columns width) (prewrap-map f columns width)

pub returns-clause-tabs : goal.returns-clause-tabs
returns-clause-tabs g c = λ f columns width. hard_parts-map f _ (ShowsTabs columns width) (tabs-map f columns width)

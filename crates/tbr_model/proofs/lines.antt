-- What the lines of a run show, in every mode, and what waits after them.
pub mod EachItem
pub mod WaitingMarkers
pub mod NothingInvented
pub mod NormalItems
pub mod MarkersAlone
pub mod Columns
pub mod LineEnds
pub mod CutWords
pub mod KeptOrder
pub mod OwnAnnotations
pub mod RunCharacters

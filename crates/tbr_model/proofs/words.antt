-- The words of a run, their items and their slots.
pub mod BestLayout
pub mod KeptItems
pub mod LinesHaveCharacters
pub mod Regions
pub mod SlotsByRegion
pub mod StoredEntries
pub mod Items
pub mod SpacedGaps

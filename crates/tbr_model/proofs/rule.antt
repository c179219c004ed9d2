-- The rule by which a block goes on, in every mode.
pub mod Content
pub mod VisibleCharacters
pub mod Markers
pub mod TakenOutMarkers
pub mod DoneLines
pub mod HardLineStart
pub mod HardLines
pub mod BlankLines
pub mod LaidText
pub mod Printable
pub mod PreservingModes
pub mod Walk
pub mod WiderLines

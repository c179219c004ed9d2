-- Runs of `Normal` mode.
pub mod LaidWords
pub mod StaysLaid
pub mod LayoutSoFar
pub mod BestLines
pub mod TrailingMarkers

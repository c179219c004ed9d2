-- Runs of `Pre` mode.
pub mod WaitingWord
pub mod CutWord
pub mod Tags
pub mod HardLine
pub mod OneCut

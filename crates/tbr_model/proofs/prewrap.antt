-- Runs of `PreWrap` mode.
pub mod Stretches
pub mod WrappedText
pub mod PutText
pub mod WrappedLines
pub mod HardLine
pub mod OneWay

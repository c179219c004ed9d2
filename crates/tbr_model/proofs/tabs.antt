-- Tabs in preserving modes.
pub mod HardLine

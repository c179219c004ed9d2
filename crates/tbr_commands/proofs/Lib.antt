pub mod Commands
pub mod Openings
pub mod Reading

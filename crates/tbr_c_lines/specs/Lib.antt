pub mod Columns
pub mod Copied
pub mod Formats
pub mod Line
pub mod Lines
pub mod Status

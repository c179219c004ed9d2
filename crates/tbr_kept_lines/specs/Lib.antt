pub mod Line
pub mod LastBorder
pub mod Text
pub mod Prefixed
pub mod KeptLines

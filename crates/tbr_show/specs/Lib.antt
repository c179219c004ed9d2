pub mod Written
pub mod Target
pub mod Ansi
pub mod Terminal
pub mod Html
pub mod Ndjson
pub mod Ambiguous

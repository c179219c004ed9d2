pub mod Footnote
pub mod Cutting

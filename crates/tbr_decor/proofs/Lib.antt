pub mod Texts
pub mod Footnotes

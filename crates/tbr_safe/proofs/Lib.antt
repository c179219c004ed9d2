pub mod Controls
pub mod Footnotes

pub mod Writes
pub mod FirstLine
pub mod FirstWord
pub mod Reading
pub mod Texts
pub mod Bars

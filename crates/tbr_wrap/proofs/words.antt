pub mod Letters
pub mod ModeCases
pub mod PlainText
pub mod PlainWords
pub mod RunEnds
pub mod TagRoom
pub mod WordsLaid

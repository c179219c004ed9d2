pub mod Common
pub mod lines
pub mod runs
pub mod words

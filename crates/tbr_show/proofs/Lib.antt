pub mod Common
pub mod Appended
pub mod Terminal

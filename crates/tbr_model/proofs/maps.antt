-- Runs under other annotations.
pub mod Words
pub mod Layouts
pub mod HardLines
pub mod Rule

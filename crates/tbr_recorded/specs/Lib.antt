pub mod Texts
pub mod Steps
pub mod Script
pub mod Drawn

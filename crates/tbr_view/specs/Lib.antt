pub mod Script
pub mod Session
pub mod Tables
pub mod Lines
pub mod Shown

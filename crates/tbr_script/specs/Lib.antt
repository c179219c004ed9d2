pub mod Lines
pub mod Script
pub mod Streams
pub mod Refusal
pub mod Report
pub mod Read

pub mod Request
pub mod Command
pub mod Syntax
pub mod Options
pub mod Opening
pub mod Begun
pub mod Read

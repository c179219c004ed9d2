pub mod Prefixes
pub mod Progress
pub mod Decorations
pub mod Closing
pub mod Commands
pub mod Safe

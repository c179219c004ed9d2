pub mod Cases
mod Examples
pub mod Singles
pub mod EachOnce
pub mod Walks
pub mod Sizes
pub mod Tiles
pub mod Within
pub mod Widths

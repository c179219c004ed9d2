pub mod Table
pub mod Needs
pub mod Widths
pub mod Laws

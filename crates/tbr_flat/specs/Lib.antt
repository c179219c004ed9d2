pub mod Tags
pub mod Flat
pub mod Walk

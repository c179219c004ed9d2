pub mod Copied
pub mod Places
pub mod Shown

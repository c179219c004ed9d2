pub mod Levels
pub mod Tops
pub mod Ends

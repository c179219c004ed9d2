pub mod Elements
mod Marks
pub mod Sized
pub mod Walks

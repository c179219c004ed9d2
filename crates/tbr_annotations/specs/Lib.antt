pub mod Chain
pub mod Annotations
pub mod Written
pub mod Open

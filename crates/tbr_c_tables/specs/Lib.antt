pub mod Open
pub mod Given

pub mod Common
pub mod ShownLines
mod States
mod Places

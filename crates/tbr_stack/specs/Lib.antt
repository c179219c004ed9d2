pub mod Stack
pub mod View
pub mod Top
pub mod Links
pub mod StackCalls

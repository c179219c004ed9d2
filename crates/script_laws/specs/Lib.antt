pub mod StackCalls
pub mod Led
pub mod Kept
pub mod Controls
pub mod Named
pub mod Blocks
pub mod LinesOnStack

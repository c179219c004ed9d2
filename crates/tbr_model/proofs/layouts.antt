-- Layouts, as lines and as cuts, and which is best.
pub mod Ahead
pub mod Greedy
pub mod Cuts
pub mod LongestLines
pub mod StoredSlots

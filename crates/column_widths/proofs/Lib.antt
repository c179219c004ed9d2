pub mod Common
pub mod Cases
pub mod Counting
pub mod Alone
pub mod AnyWidths
mod Examples
pub mod LeftOver
pub mod Order
pub mod Ordered
pub mod Ranks
pub mod Rooms
pub mod Shares
pub mod Walks
pub mod Within

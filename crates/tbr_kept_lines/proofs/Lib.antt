pub mod Common
pub mod ItemsLeft
pub mod LastBorder
pub mod KeptParts
pub mod Prefixes

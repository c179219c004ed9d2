pub mod Chains
pub mod WrittenLines
pub mod MappedBorders
pub mod Told

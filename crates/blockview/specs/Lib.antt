pub mod Arguments
pub mod Output
pub mod Status

pub mod Tells
pub mod Lists
pub mod Texts

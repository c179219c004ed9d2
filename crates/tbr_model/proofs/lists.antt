-- Lists, whatever they hold.
pub mod Joined
pub mod Each

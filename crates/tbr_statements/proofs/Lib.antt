mod AutoCells
mod NearWords
pub mod FirstWords

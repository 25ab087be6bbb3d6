mod Chunks
mod Entries
pub mod Fetch
mod Fours
mod Sixes
mod Walk

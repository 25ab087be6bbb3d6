pub mod Fields
pub mod Fours
pub mod Layout
pub mod Ranges
pub mod Said
pub mod Sixes
pub mod Threads

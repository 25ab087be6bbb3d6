pub mod Calls
pub mod Rings
pub mod Values

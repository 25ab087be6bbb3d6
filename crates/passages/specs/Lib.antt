pub mod Changes
pub mod Lines
pub mod Orders

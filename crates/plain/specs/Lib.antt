pub mod Acts
pub mod Said

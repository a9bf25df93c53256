pub mod Gate
pub mod Examined

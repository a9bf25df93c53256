pub mod Lines
pub mod Patience

pub mod Asked
pub mod Keeping

pub mod Seen
pub mod Saving

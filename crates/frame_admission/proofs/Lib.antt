pub mod Causes
pub mod Heads
pub mod Keys

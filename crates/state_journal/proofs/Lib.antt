pub mod Faults
pub mod Replayed

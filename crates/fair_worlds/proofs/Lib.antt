pub mod Callers
pub mod Fair

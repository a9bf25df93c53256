pub mod Failures
pub mod Named

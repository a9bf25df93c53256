pub mod Naming
pub mod Judging
pub mod Timing
pub mod Bundling

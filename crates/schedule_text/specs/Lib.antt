pub mod Failures
pub mod Numbers
pub mod Names
pub mod Values
pub mod Lines
pub mod Runs
pub mod Texts

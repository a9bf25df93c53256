-- The worked runs and cases, each by computing.
pub mod Deciding
pub mod Relocking
pub mod Bundling
pub mod Reporting
pub mod Cases
pub mod Meeting

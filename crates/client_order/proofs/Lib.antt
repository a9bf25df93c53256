pub mod Numbered
pub mod Walks
pub mod Divisions
pub mod Sessions

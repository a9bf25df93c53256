pub mod Judging
pub mod Telling
pub mod Watching

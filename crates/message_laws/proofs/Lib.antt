pub mod Apart
pub mod Same
pub mod Taken
pub mod Lists
pub mod InRange
pub mod Heard

pub mod Turns
pub mod Follows
pub mod Growing
pub mod Places

pub mod Causes
mod Found
pub mod Kept
pub mod Places
pub mod Rotation
pub mod Sizes
pub mod Standings
pub mod Tagged

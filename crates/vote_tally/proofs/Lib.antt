pub mod OwnLimits
pub mod Raising
pub mod Highest
pub mod Told
pub mod Decided

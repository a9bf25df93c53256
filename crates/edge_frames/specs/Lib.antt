pub mod Behind
pub mod Early
pub mod Links
pub mod Passing
pub mod Turns
pub mod Holding

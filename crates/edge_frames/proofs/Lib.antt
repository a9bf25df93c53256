pub mod Links
pub mod Passing
pub mod Placing
pub mod Turning

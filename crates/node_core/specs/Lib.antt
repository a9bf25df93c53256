pub mod Core
pub mod Seen
pub mod Calls
pub mod Firing
pub mod Running
pub mod Opening
pub mod Next
pub mod Base

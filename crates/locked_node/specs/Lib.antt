pub mod History
pub mod Calls
pub mod Feeding
pub mod Locked
pub mod Certified
pub mod Subscribing
pub mod Meeting
pub mod Subscribers

pub mod Commands
pub mod Words
pub mod Running
pub mod Sending
pub mod Settings
pub mod Lawful
pub mod Failures
pub mod Looking

pub mod Seen
pub mod Rule
pub mod Plays
pub mod Steps
pub mod Ends

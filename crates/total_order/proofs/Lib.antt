pub mod Longest
pub mod Marks

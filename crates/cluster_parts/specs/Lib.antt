pub mod Disk
pub mod Lanes

pub mod Places
pub mod Finding
pub mod Cutting

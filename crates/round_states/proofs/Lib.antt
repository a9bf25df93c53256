pub mod Beginning
pub mod Certificates
pub mod Deciding
pub mod ByRound
pub mod Keeping
pub mod Restarting

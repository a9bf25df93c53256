pub mod Laws
pub mod Locks

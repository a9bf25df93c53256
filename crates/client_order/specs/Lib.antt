pub mod Sessions
pub mod Laws

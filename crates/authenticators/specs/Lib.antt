pub mod Party
pub mod Tags
pub mod Lines
pub mod Ring
pub mod Keys
pub mod Pads
pub mod Laws

pub mod Owners
pub mod Fronts

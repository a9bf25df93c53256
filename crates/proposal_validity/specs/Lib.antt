pub mod Standing
pub mod Course
pub mod Laws

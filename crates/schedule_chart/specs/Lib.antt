pub mod Escaping
pub mod Extent
pub mod Bringing

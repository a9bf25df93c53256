pub mod Checking
pub mod Equality
pub mod Fields
pub mod Grammar
pub mod Held
pub mod Reading

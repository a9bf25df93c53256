pub mod Link
pub mod Turn

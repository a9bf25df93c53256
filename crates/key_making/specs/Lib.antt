pub mod Table
pub mod KeyFile
pub mod Rings

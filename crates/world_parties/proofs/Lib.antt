pub mod Tags
pub mod KeyFiles
pub mod KeyLines
pub mod Rings
pub mod Sets
pub mod Encodings

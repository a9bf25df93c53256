pub mod Faults
pub mod Sets
pub mod Keys
pub mod KeyFile
pub mod Sending
pub mod Cast

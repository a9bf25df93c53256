pub mod KeyFiles

mod KeyFiles
mod KeyLines
mod Rings
mod Tables

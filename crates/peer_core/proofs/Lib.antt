pub mod Headings
pub mod Idles

pub mod Behind
pub mod Parsing

pub mod Bitwise
pub mod Levels
pub mod Changed
pub mod ShownTests
pub mod Indexing
pub mod Firsts
pub mod Updates

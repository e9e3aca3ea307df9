pub mod Config
pub mod Scripted
pub mod Stored

pub mod Mistakes
pub mod Notes

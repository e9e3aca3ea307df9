pub mod Places
pub mod Closing
pub mod Marking
pub mod Counts
pub mod Twice

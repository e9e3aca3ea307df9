pub mod Moments
pub mod Images
pub mod Prefixes
pub mod Steps
pub mod Appends
pub mod Opens
pub mod Written
pub mod Aheads

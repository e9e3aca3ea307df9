pub mod Kept
pub mod Opening
pub mod Replaying
pub mod Again

pub mod Order
pub mod Paths
pub mod Names
pub mod Reading
pub mod Package
pub mod Told
pub mod Walk

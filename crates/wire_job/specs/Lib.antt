pub mod Units
pub mod JobFields
pub mod Checks
pub mod JobValue
pub mod JobShape
pub mod Reading
pub mod Writing

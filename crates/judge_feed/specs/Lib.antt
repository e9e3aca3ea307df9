pub mod Showing
pub mod Refreshing

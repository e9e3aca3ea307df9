pub mod Counts
pub mod Singly
pub mod Index
pub mod Due
pub mod Changed
pub mod Renewed
pub mod Walks

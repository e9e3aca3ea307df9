pub mod KeyOrder
pub mod Rises
pub mod Groups
pub mod Changes
pub mod Weights
pub mod Bounds

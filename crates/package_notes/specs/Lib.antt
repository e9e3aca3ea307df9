pub mod Notes
pub mod Files
pub mod Package

pub mod Programs
pub mod Draws
pub mod Made
pub mod Files
pub mod Reading

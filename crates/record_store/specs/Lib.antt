pub mod Model
pub mod Held
pub mod MemoryValue
pub mod MemoryLayout
pub mod Reading

pub mod Reading
pub mod Listing
pub mod MemoryValue
pub mod Disk

pub mod Header
pub mod Segments
pub mod Loads
pub mod Image
pub mod Laws
pub mod Smallest

pub mod Places
pub mod Bytes
pub mod Touching
pub mod Storing
pub mod Ranges
pub mod Laws
pub mod Paging
pub mod Recents

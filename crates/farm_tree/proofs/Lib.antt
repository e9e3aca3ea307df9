pub mod Places
pub mod Components
pub mod Listings

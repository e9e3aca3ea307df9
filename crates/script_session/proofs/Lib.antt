pub mod Sessions
pub mod Keepings
pub mod Storings
pub mod Endings
pub mod Completing
pub mod Firsts

pub mod Session
pub mod Keeping
pub mod Storing
pub mod Firsts

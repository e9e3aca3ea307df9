pub mod Members
pub mod Ordered
pub mod Strings
pub mod Walks
pub mod Answering
pub mod Validators
pub mod Searches

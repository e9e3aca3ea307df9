pub mod Commands
pub mod Ranges
pub mod Checks
pub mod Addresses
pub mod CommandLine
pub mod Helping

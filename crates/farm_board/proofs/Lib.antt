pub mod Prefixes
pub mod Numbers
pub mod Histories
pub mod Views
pub mod Turns
pub mod Seats
pub mod Ends
pub mod Passes
pub mod Trusts
pub mod Agreeing
pub mod HostCalls
pub mod Callers
mod Listed
pub mod Sending

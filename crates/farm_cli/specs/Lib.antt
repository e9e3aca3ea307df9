pub mod ServedContest
pub mod Hosting
pub mod Commands

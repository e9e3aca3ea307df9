pub mod Numbers
pub mod Beside
pub mod Stands
pub mod Telling
pub mod Ending
pub mod Whole
pub mod Finishing
mod Sending
mod Settling
mod Names
pub mod Unread

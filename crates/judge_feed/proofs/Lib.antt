pub mod Submissions
pub mod Looks
pub mod Showing
pub mod Feeds
pub mod Sending

pub mod Adds
pub mod Goes
pub mod Played

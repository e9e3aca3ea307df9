pub mod Fields
pub mod Bodies
pub mod Objects
pub mod Replies
pub mod FaultTexts
pub mod Strings

pub mod KeptLaws
pub mod KeptReplays
pub mod Openings
pub mod Replays
pub mod ShortLists
pub mod ShortTexts
